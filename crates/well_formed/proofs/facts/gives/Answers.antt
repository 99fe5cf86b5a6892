-- `well_formed::facts::gives` meets its contract.
use Rattle.std.proofs.Common.{ap, ◌∙◌}
use Rattle.form_facts.specs.OneForm.{fact_of}
use Rattle.form_facts.specs.declared.Facts.{Facts}
use Rattle.well_formed.specs.InternalPasses.{known}
use Rattle.well_formed.proofs.CellLaws.{none_is, cell_is}
use Rattle.well_formed.proofs.FormLaws.{node_gives}
use Rattle.well_formed.proofs.facts.gives.Goals as goal

pub returns : goal.returns
returns c =
    λ x.
    c.facts_by_form.ensures x
    ∙ node_gives c.args.table.now.nodes.now c.args.table.now.rules.now c.args.n (known c.args.cells.now) (fact_of c.cell-first.result) (fact_of c.cell-second.result)
    c.node_at-node.ensures.kind
    (λ y.
    ap (λ (f : Facts). fact_of f y) (cell_is c.args.cells.now c.node_at-node.result.first c.cell-first.ensures (none_is _ c.default.ensures))
    ∙ ap (known c.args.cells.now y) c.node_at-node.ensures.first)
    (λ y.
    ap (λ (f : Facts). fact_of f y) (cell_is c.args.cells.now c.node_at-node.result.second c.cell-second.ensures (none_is _ c.default-2.ensures))
    ∙ ap (known c.args.cells.now y) c.node_at-node.ensures.second) x
