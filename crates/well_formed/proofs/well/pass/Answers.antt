-- `well_formed::well::pass` meets its contract.
use Rattle.std.proofs.Common.{arith, sym, ◌∙◌, true≢false}
use Rattle.well_formed.proofs.StepLaws.{well_kept, well_added}
use Rattle.well_formed.proofs.well.pass.Goals as goal
use Rattle.well_formed.proofs.well.pass.Goals.{then-not-well-n+then-passes, else-not-well-n}
use Rattle.well_formed.proofs.well.pass.Goals.{else-not-well-n-via-then-not-well-n+else-passes, else-not-well-n-via-else-not-well-n}

pub loop-n-preserved : goal.loop-n-preserved
loop-n-preserved c = (
  omega arith,
  elim c.if-not-well-n.branch [
    | then-not-well-n+then-passes w ↦
        rw (w.well-is, w.found-is)
        (well_added _ _ c.requires.passing _ _ _ c.requires.all_nothing _ _ c.loop-n.invariant.1 c.loop-n-test.true
        (sym w.passes.ensures ∙ w.if-passes.true) w.if-not-well-n.true (omega arith))
    | else-not-well-n w ↦
        rw (w.well-is, w.found-is)
        (well_kept _ _ c.requires.passing _ _ _ c.requires.all_nothing _ _ c.loop-n.invariant.1 c.loop-n-test.true
        (elim w.else-not-well-n.branch [
          | else-not-well-n-via-then-not-well-n+else-passes v ↦ (λ e. absurd (true≢false (sym e ∙ sym v.passes.ensures ∙ v.if-passes.false)))
          | else-not-well-n-via-else-not-well-n v ↦ (λ e. v.if-not-well-n.false)
        ]))
  ],
)
