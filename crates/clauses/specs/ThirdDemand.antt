-- Demand 3: for every well-formed grammar, token list and start within the limits the clauses over sets give exactly one
-- outcome, and what a run answers is alike; their captures are those that a run lists (02, Note 2), and their farthest place is
-- the one that it answers, "in success and failure" (02, Note 7). By either reading, each "under its own clauses" (02, Note 5).
use Rattle.std.specs.Prelude.{ℕ, ◌≡◌, List, length}
use Rattle.table.specs.Answer.{given}
use Rattle.columns.specs.Sets.{ColumnSet, sets}
use Rattle.columns.specs.Intervals.{ends}
use Rattle.columns.specs.declared.Interval.{Interval}
use Rattle.columns.specs.declared.Start.{Start}
use Rattle.columns.specs.declared.Reading.{Reading}
use Rattle.clauses.specs.Clauses.{State, Outcome, success}
use Rattle.clauses.specs.AlikeOutcomes.{AlikeOutcome}
use Rattle.clauses.specs.RunAnswer.{SetRun, set_farthest, Ended, run_answer, Reads}
use Rattle.clauses.specs.ListAnswer.{set_captures, our_captures, list_answer, list_words, list_after}

pub record ThirdDemand (reading : Reading) (nodes rules words : List ℕ) (start : Start) : Type 1 where
  -- a run answers an outcome, with a farthest place,
  pub ours : Ended
  pub answered : run_answer reading nodes rules words start ≡ given ours
  -- the clauses over sets give one,
  pub theirs : Outcome ColumnSet
  pub derived : SetRun reading nodes rules words start theirs
  -- and no other,
  pub only : (o : Outcome ColumnSet) → SetRun reading nodes rules words start o → o ≡ theirs
  -- and the two are alike;
  pub alike : AlikeOutcome ends sets ours.outcome theirs
  -- a success has read so many tokens from the start's place on,
  pub read : (s : State Interval) → ours.outcome ≡ success s → (n : ℕ) × Reads start.place n s.0
  -- every derivation over sets has that farthest place, of a success and of a failure,
  pub looked :
      (o : Outcome ColumnSet) (d : SetRun reading nodes rules words start o)
      → set_farthest reading nodes rules words start o d ≡ ours.farthest
  -- and our captures
  pub captures :
      (o : Outcome ColumnSet) (d : SetRun reading nodes rules words start o)
      → set_captures reading nodes rules words start o d ≡ our_captures reading nodes rules words start

-- The same for a run that lists, into so many lent words: where 13 does not apply either, it answers that outcome and farthest
-- place and the number of those captures,
pub record ListDemand (reading : Reading) (nodes rules words : List ℕ) (start : Start) (lent : ℕ) : Type 1 where
  pub demand : ThirdDemand reading nodes rules words start
  pub answered :
      list_answer reading nodes rules words start lent
      ≡ given (record { ended = demand.ours; count = length (our_captures reading nodes rules words start) })
  -- and the captures of every derivation over sets stand in the lent words afterwards
  pub stands :
      (before : List ℕ)
      → length before ≡ lent
      → (o : Outcome ColumnSet) (d : SetRun reading nodes rules words start o)
      → list_after reading nodes rules words start before ≡ list_words (set_captures reading nodes rules words start o d) lent
