-- What a walk answers and leaves in the lent words: what a run and a run that lists are made of.
use Rattle.std.specs.Prelude.{ℕ, ◌/◌, min, cond, Result, List, length, leb}
use Rattle.table.specs.Answer.{Answer, given, and_then, afterwards}
use Rattle.table.specs.Refusals.{answer_by}
use Rattle.table.specs.declared.refusals.Refusal.{Refusal}
use Rattle.columns.specs.declared.Start.{Start}
use Rattle.columns.specs.declared.Reading.{Reading}
use Rattle.columns.specs.declared.Outcome.{Outcome}
use Rattle.columns.specs.declared.Outcome.TheVariants.{Success, Failure}
use Rattle.clauses.specs.Clauses.{success, failure}
use Rattle.clauses.specs.RunAnswer.{Ended, our_end, run_answer}
use Rattle.clauses.specs.ListAnswer.{our_captures, Listing, list_words}
use Rattle.capture_list.specs.Put.{most_count}
use Rattle.walk.specs.declared.Walk.{Walk}

-- What an outcome says a run ends in.
abbrev pub end_of : Outcome → Ended
end_of (Success s) = record { outcome = success (s.place, s.interval, s.flag); farthest = s.farthest }
end_of (Failure farthest) = record { outcome = failure; farthest = farthest }

-- The answer of a walk that gives its outcome, and of one that gives the number of captures too.
abbrev pub ended : Result Outcome Refusal → Answer Ended
ended = answer_by end_of

abbrev pub numbers : Result Walk Refusal → Answer Listing
numbers = answer_by (λ w. record { ended = end_of w.outcome; count = w.captures })

-- The numbers of a run, then what it ends in and the number of its captures, counted as far as the count goes.
unfoldable pub walk_answer : Reading → List ℕ → List ℕ → List ℕ → Start → Answer Listing
walk_answer reading nodes rules words start =
    and_then (run_answer reading nodes rules words start)
    (given
    (record {
      ended = our_end reading nodes rules words start;
      count = min (length (our_captures reading nodes rules words start)) most_count;
    }))

-- The lent words afterwards: where there is a place for each capture, as after a run that lists.
unfoldable pub walk_after : Reading → List ℕ → List ℕ → List ℕ → Start → List ℕ → List ℕ
walk_after reading nodes rules words start before =
    cond (leb (length (our_captures reading nodes rules words start)) (length before / 4))
    (afterwards (run_answer reading nodes rules words start)
    (list_words (our_captures reading nodes rules words start) (length before)) before)
    before
