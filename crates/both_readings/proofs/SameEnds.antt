-- Where a grammar reads alike from a start, the clauses over sets give the same by both readings, and so does what a run computes:
-- its outcome, its trace, and so its farthest place, what it ends in and its captures.
use Prim.Native.Nat.{ℕ}
use mathlib.Core.Path.{◌≡◌, refl, sym, ap, ap₂, ◌∙◌}
use mathlib.Core.Bool.{Bool, true, false}
use mathlib.Core.List.{List}
use mathlib.Core.Logic.{◌↔◌}
use Rattle.table.specs.Answer.{Answer, given, refused, refused_at, refuse_if, and_then}
use Rattle.table.specs.Form.{form}
use Rattle.columns.specs.Sets.{ColumnSet, sets}
use Rattle.columns.specs.Intervals.{Lies, ends}
use Rattle.columns.specs.declared.Interval.{Interval}
use Rattle.columns.specs.declared.Start.{Start}
use Rattle.columns.specs.declared.Reading.TheVariants.{By2017, By2014}
use Rattle.well_formed.specs.WellFormed.{Passes}
use Rattle.well_formed.specs.Check.{check_answer}
use Rattle.well_formed.proofs.VerdictLaws.{check_means}
use Rattle.clauses.specs.Clauses.{Outcome}
use Rattle.clauses.specs.Limits.{tokens_of, fails11, fails12, fails16, WithinLimits}
use Rattle.clauses.specs.Trace.{Trace, farthest_from, listed}
use Rattle.clauses.specs.RunAnswer.{SetRun, set_farthest, our_outcome, our_trace, our_end}
use Rattle.clauses.specs.ListAnswer.{set_captures, our_captures}
use Rattle.theorems.proofs.OneOutcome.{Same, one_run, one_trace}
use Rattle.theorems.proofs.Agreement.{run_given}
use Rattle.both_readings.specs.BothReadings.{ReadAlike}
use Rattle.both_readings.proofs.SameGives.{same_gives}

-- 16 never applies by 2017.
pub never_16 : (nodes : List ℕ) (start : Start) → fails16 By2017 nodes start ≡ false
unfolding fails16
never_16 nodes start = refl

module _ (nodes rules words : List ℕ) (start : Start) (alike : ReadAlike nodes rules (form nodes start.node) start.flag) where
  -- over sets the same outcomes,
  pub same_set_run : (o : Outcome ColumnSet) → SetRun By2014 nodes rules words start o ↔ SetRun By2017 nodes rules words start o
  same_set_run o = (
    λ d. ((same_gives nodes rules words start alike sets (λ k. Lies k start.interval) o _).0 (record { run = d; shows = refl })).run,
    λ d. ((same_gives nodes rules words start alike sets (λ k. Lies k start.interval) o _).1 (record { run = d; shows = refl })).run,
  )

  -- the same farthest place,
  pub same_set_farthest :
      (o o' : Outcome ColumnSet) (d : SetRun By2014 nodes rules words start o) (e : SetRun By2017 nodes rules words start o')
      → set_farthest By2014 nodes rules words start o d ≡ set_farthest By2017 nodes rules words start o' e
  same_set_farthest o o' d e =
      let x = (same_gives nodes rules words start alike sets (λ k. Lies k start.interval) o _).0 (record { run = d; shows = refl }) in
      ap (farthest_from start.place) (sym x.shows ∙ (one_run sets By2017 nodes rules (tokens_of words) x.run e).shown)

  -- and the same captures.
  pub same_set_captures :
      (o o' : Outcome ColumnSet) (d : SetRun By2014 nodes rules words start o) (e : SetRun By2017 nodes rules words start o')
      → set_captures By2014 nodes rules words start o d ≡ set_captures By2017 nodes rules words start o' e
  same_set_captures o o' d e =
      let x = (same_gives nodes rules words start alike sets (λ k. Lies k start.interval) o _).0 (record { run = d; shows = refl }) in
      let q = one_run sets By2017 nodes rules (tokens_of words) x.run e in
      ap₂ listed q.outcome (sym x.shows ∙ q.shown)

  -- For a well-formed grammar within the limits of both, what is computed is the same by both:
  module _ (limits : WithinLimits By2014 nodes rules words start) (well : Passes nodes rules) where
    limits_2017 : WithinLimits By2017 nodes rules words start
    limits_2017 = record { table = limits.table; tokens = limits.tokens; start_right = limits.start_right; reading_right = never_16 nodes start }

    same :
        Same ends By2017 nodes rules (tokens_of words) (our_outcome By2014 nodes rules words start) (our_outcome By2017 nodes rules words start)
        (our_trace By2014 nodes rules words start) (our_trace By2017 nodes rules words start)
    same =
        one_trace ends By2017 nodes rules (tokens_of words) ((same_gives nodes rules words start alike ends start.interval _ _).0 (run_given By2014 nodes rules words start limits well))
        (run_given By2017 nodes rules words start limits_2017 well)

    -- the outcome,
    pub same_outcome : our_outcome By2014 nodes rules words start ≡ our_outcome By2017 nodes rules words start
    same_outcome = same.outcome

    -- the trace,
    pub same_trace : our_trace By2014 nodes rules words start ≡ our_trace By2017 nodes rules words start
    same_trace = same.shown

    -- so what the run ends in,
    pub same_end : our_end By2014 nodes rules words start ≡ our_end By2017 nodes rules words start
    same_end = ap₂ (λ (o : Outcome Interval) (t : Trace). record { outcome = o; farthest = farthest_from start.place t }) same_outcome same_trace

    -- and the captures.
    pub same_captures : our_captures By2014 nodes rules words start ≡ our_captures By2017 nodes rules words start
    same_captures = ap₂ listed same_outcome same_trace

  -- Where 16 does not apply, also if the call is turned down otherwise, what comes behind the checks of a run is the same.
  module _ (positionless : fails16 By2014 nodes start ≡ false) where
    pub after_checks :
        (c : Answer Unit) (t b : Bool)
        → check_answer nodes rules ≡ c
        → fails11 words ≡ t
        → fails12 nodes words start ≡ b
        → and_then c (refuse_if t 11 (refuse_if b 12 (given (our_end By2014 nodes rules words start))))
        ≡ and_then c (refuse_if t 11 (refuse_if b 12 (given (our_end By2017 nodes rules words start))))
    after_checks (given tt) false false p q r =
        let m = (check_means nodes rules).passes.0 p in
        ap given (same_end (record { table = m.0; tokens = q; start_right = r; reading_right = positionless }) m.1)
    after_checks (given tt) false true p q r = refl
    after_checks (given tt) true b p q r = refl
    after_checks (refused k) t b p q r = refl
    after_checks (refused_at k n) t b p q r = refl
