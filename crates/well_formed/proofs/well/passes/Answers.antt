-- `well_formed::well::passes` meets its contract.
use Rattle.std.proofs.Common.{ℕ, false, ap, ◌∙◌, get_or}
use Rattle.form_facts.specs.declared.Facts.{Facts}
use Rattle.well_formed.specs.Facts.{nothing}
use Rattle.well_formed.specs.InternalPasses.{known}
use Rattle.well_formed.proofs.CellLaws.{none_is, cell_is}
use Rattle.well_formed.proofs.FormLaws.{node_passes}
use Rattle.well_formed.proofs.well.passes.Goals as goal

pub returns : goal.returns
returns c =
    c.well_by_form.ensures
    ∙ node_passes c.args.table.now.nodes.now c.args.table.now.rules.now c.args.n (known c.args.cells.now nothing) (λ m. get_or c.args.well.now m false)
    c.cell-first.result c.cell-facts.result.nothing c.cell-second.result c.node_at-node.ensures.kind
    (c.cell-first.ensures ∙ ap (λ (m : ℕ). get_or c.args.well.now m false) c.node_at-node.ensures.first)
    (ap (λ (f : Facts). f.nothing) (cell_is c.args.cells.now c.node_at-node.result.first c.cell-facts.ensures (none_is _ c.default.ensures))
    ∙ ap (known c.args.cells.now nothing) c.node_at-node.ensures.first)
    (c.cell-second.ensures ∙ ap (λ (m : ℕ). get_or c.args.well.now m false) c.node_at-node.ensures.second)
