-- `well_formed::facts::pass` meets its contract.
use Rattle.std.proofs.Common.{arith, sym, ◌∙◌}
use Rattle.well_formed.proofs.StepLaws.{facts_kept, facts_added}
use Rattle.well_formed.proofs.CellLaws.{same_by_tests, other_by_tests}
use Rattle.well_formed.proofs.facts.pass.Goals as goal
use Rattle.well_formed.proofs.facts.pass.Goals.{then-ne, else-ne}

pub loop-n-preserved : goal.loop-n-preserved
loop-n-preserved c = (
  omega arith,
  elim c.if-ne.branch [
    | then-ne w ↦
        rw (w.cells-is, w.found-is)
        (facts_added _ _ _ _ _ _ c.loop-n.invariant.1 _ _ c.gives-new.ensures c.joined-now.ensures c.loop-n-test.true
        (other_by_tests _ _ (sym c.ne.ensures ∙ w.if-ne.true)) (omega arith))
    | else-ne w ↦
        rw (w.cells-is, w.found-is)
        (facts_kept _ _ _ _ _ _ c.loop-n.invariant.1 _ _ c.gives-new.ensures c.joined-now.ensures c.loop-n-test.true
        (same_by_tests _ _ (sym c.ne.ensures ∙ w.if-ne.false)) (omega arith))
  ],
)
