-- A run from a start by a reading, and what it answers (01, "Columns and states", "The clauses over sets" and "Turned-down
-- calls"; 02, Notes 5 and 7).
use Rattle.std.specs.Prelude.{ℕ, ◌+◌, ◌≡◌, List}
use Rattle.table.specs.Answer.{Answer, given, refuse_if, and_then}
use Rattle.table.specs.Form.{form}
use Rattle.columns.specs.Sets.{ColumnSet, sets}
use Rattle.columns.specs.Intervals.{Lies, ends}
use Rattle.columns.specs.declared.Interval.{Interval}
use Rattle.columns.specs.declared.Start.{Start}
use Rattle.columns.specs.declared.Reading.{Reading}
use Rattle.well_formed.specs.Check.{check_answer}
use Rattle.clauses.specs.Clauses.{Outcome, Run}
use Rattle.clauses.specs.Limits.{tokens_of, fails11, fails12, fails16}
use Rattle.clauses.specs.Trace.{Trace, trace, farthest_from}
use Rattle.clauses.specs.Evaluation.{outcome_for, trace_for}

-- A run of the clauses over sets: at the start's node, in its mode, from its place and flag and "every natural number in its
-- interval".
abbrev pub SetRun : Reading → List ℕ → List ℕ → List ℕ → Start → Outcome ColumnSet → Type 1
SetRun reading nodes rules words start o =
    Run sets reading nodes rules (tokens_of words) start.mode (form nodes start.node)
    (start.place, (λ k. Lies k start.interval), start.flag) o

-- A run of the clauses over two ends.
abbrev pub EndsRun : Reading → List ℕ → List ℕ → List ℕ → Start → Outcome Interval → Type 0
EndsRun reading nodes rules words start o =
    Run ends reading nodes rules (tokens_of words) start.mode (form nodes start.node)
    (start.place, start.interval, start.flag) o

-- The outcome over two ends, computed.
abbrev pub our_outcome : Reading → List ℕ → List ℕ → List ℕ → Start → Outcome Interval
our_outcome reading nodes rules words start =
    outcome_for reading nodes rules (tokens_of words) start.mode start.node
    (start.place, start.interval, start.flag)

-- Its trace.
abbrev pub our_trace : Reading → List ℕ → List ℕ → List ℕ → Start → Trace
our_trace reading nodes rules words start =
    trace_for reading nodes rules (tokens_of words) start.mode start.node
    (start.place, start.interval, start.flag)

-- "It is defined from the derivation; the clauses over sets carry it too": the farthest place of a derivation over sets, and of
-- one over two ends.
abbrev pub set_farthest :
    (reading : Reading) (nodes rules words : List ℕ) (start : Start) (o : Outcome ColumnSet)
    → SetRun reading nodes rules words start o
    → ℕ
set_farthest reading nodes rules words start o d =
    farthest_from start.place (trace sets reading nodes rules (tokens_of words) d)

abbrev pub ends_farthest :
    (reading : Reading) (nodes rules words : List ℕ) (start : Start) (o : Outcome Interval)
    → EndsRun reading nodes rules words start o
    → ℕ
ends_farthest reading nodes rules words start o d =
    farthest_from start.place (trace ends reading nodes rules (tokens_of words) d)

-- The farthest place over two ends, computed.
abbrev pub our_farthest : Reading → List ℕ → List ℕ → List ℕ → Start → ℕ
our_farthest reading nodes rules words start = farthest_from start.place (our_trace reading nodes rules words start)

-- What a run ends in: its outcome, and with "both success and failure" the farthest place.
pub record Ended : Type 0 where
  pub outcome : Outcome Interval
  pub farthest : ℕ

abbrev pub our_end : Reading → List ℕ → List ℕ → List ℕ → Start → Ended
our_end reading nodes rules words start =
    record {
      outcome = our_outcome reading nodes rules words start;
      farthest = our_farthest reading nodes rules words start;
    }

-- "the interpreter 3, 4, 5, 7, 11, 12", and 16 "after 12": 3, 4, 5 and 7, then 11, then 12, then 16, then the outcome with its
-- farthest place.
unfoldable pub run_answer : Reading → List ℕ → List ℕ → List ℕ → Start → Answer Ended
run_answer reading nodes rules words start =
    and_then (check_answer nodes rules)
    (refuse_if (fails11 words) 11
    (refuse_if (fails12 nodes words start) 12
    (refuse_if (fails16 reading nodes start) 16
    (given (our_end reading nodes rules words start)))))

-- "tokens read (end place less start place)": from a place on, so many tokens end at a place.
abbrev pub Reads : (place read end : ℕ) → Type 0
Reads place read end = place + read ≡ end
