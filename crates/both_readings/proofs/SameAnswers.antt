-- Where a grammar reads alike from a start, and 16 does not apply, a run answers the same by both readings.
use Prim.Native.Nat.{ℕ}
use mathlib.Core.Path.{◌≡◌, refl}
use mathlib.Core.Bool.{false}
use mathlib.Core.List.{List}
use Rattle.table.specs.Form.{form}
use Rattle.columns.specs.declared.Start.{Start}
use Rattle.columns.specs.declared.Reading.TheVariants.{By2017, By2014}
use Rattle.well_formed.specs.Check.{check_answer}
use Rattle.clauses.specs.Limits.{fails11, fails12, fails16}
use Rattle.clauses.specs.RunAnswer.{run_answer}
use Rattle.both_readings.specs.BothReadings.{ReadAlike}
use Rattle.both_readings.proofs.SameEnds.{never_16, after_checks}

module _ (nodes rules words : List ℕ) (start : Start) (alike : ReadAlike nodes rules (form nodes start.node) start.flag) where
  -- Where 16 does not apply, also if the call is turned down otherwise:
  module _ (positionless : fails16 By2014 nodes start ≡ false) where
    -- a run answers the same,
    pub same_answer : run_answer By2014 nodes rules words start ≡ run_answer By2017 nodes rules words start
    unfolding run_answer
    same_answer = rw (positionless, never_16 nodes start) (after_checks nodes rules words start alike positionless (check_answer nodes rules) (fails11 words) (fails12 nodes words start) refl refl refl)
