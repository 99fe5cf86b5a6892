-- `well_formed::judge` meets its contract.
use Rattle.std.proofs.Common.{sym}
use mathlib.Core.Path.{subst}
use lib.ListN.{replicate}
use Rattle.form_facts.specs.declared.Facts.{Facts}
use Rattle.well_formed.specs.InternalPasses.{FactsReady}
use Rattle.well_formed.proofs.CellLaws.{none_is}
use Rattle.well_formed.proofs.JudgeLaws.{facts_start}
use Rattle.well_formed.proofs.judge.Goals as goal

pub find-requires : goal.find-requires
find-requires c =
    subst (λ (f : Facts). FactsReady c.args.nodes.now c.args.rules.now (replicate 512 f)) (sym (none_is _ c.default-cells.ensures))
    (facts_start c.args.nodes.now c.args.rules.now c.requires)
