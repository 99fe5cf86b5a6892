-- A run that lists its captures (02, Note 2): what it answers, number 13, and what it leaves in the lent words.
use Rattle.std.specs.Prelude.{ℕ, ◌-◌, ◌*◌, ◌/◌, Bool, List, [], ◌∷◌, ◌++◌, length, replicate, ltb}
use Rattle.table.specs.Answer.{Answer, given, refuse_if, and_then, afterwards}
use Rattle.table.specs.Words.{each_words}
use Rattle.columns.specs.Sets.{ColumnSet, sets}
use Rattle.columns.specs.Intervals.{ends}
use Rattle.columns.specs.declared.Interval.{Interval}
use Rattle.columns.specs.declared.Start.{Start}
use Rattle.columns.specs.declared.Reading.{Reading}
use Rattle.columns.specs.declared.Capture.{Capture}
use Rattle.clauses.specs.Clauses.{Outcome}
use Rattle.clauses.specs.Trace.{trace, listed}
use Rattle.clauses.specs.Limits.{tokens_of}
use Rattle.clauses.specs.RunAnswer.{SetRun, EndsRun, our_outcome, our_trace, Ended, our_end, run_answer}

-- "the one that the clauses' own derivation gives": the captures of a derivation over two ends, and of one over sets.
abbrev pub ends_captures :
    (reading : Reading) (nodes rules words : List ℕ) (start : Start) (o : Outcome Interval)
    → EndsRun reading nodes rules words start o
    → List Capture
ends_captures reading nodes rules words start o d = listed o (trace ends reading nodes rules (tokens_of words) d)

abbrev pub set_captures :
    (reading : Reading) (nodes rules words : List ℕ) (start : Start) (o : Outcome ColumnSet)
    → SetRun reading nodes rules words start o
    → List Capture
set_captures reading nodes rules words start o d = listed o (trace sets reading nodes rules (tokens_of words) d)

-- The captures over two ends, computed.
abbrev pub our_captures : Reading → List ℕ → List ℕ → List ℕ → Start → List Capture
our_captures reading nodes rules words start =
    listed (our_outcome reading nodes rules words start) (our_trace reading nodes rules words start)

-- 13: "fewer capture places than the list needs", of so many lent words, four a place.
unfoldable pub fails13 : Reading → List ℕ → List ℕ → List ℕ → Start → ℕ → Bool
fails13 reading nodes rules words start lent = ltb (lent / 4) (length (our_captures reading nodes rules words start))

-- What a run ends in, and how many captures are listed with it.
pub record Listing : Type 0 where
  pub ended : Ended
  pub count : ℕ

-- "13 .. after 12", and 16 "before 13": the numbers of the run without a list, then 13, then what it ends in and the number of
-- captures.
unfoldable pub list_answer : Reading → List ℕ → List ℕ → List ℕ → Start → ℕ → Answer Listing
list_answer reading nodes rules words start lent =
    and_then (run_answer reading nodes rules words start)
    (refuse_if (fails13 reading nodes rules words start lent) 13
    (given
    (record {
      ended = our_end reading nodes rules words start;
      count = length (our_captures reading nodes rules words start);
    })))

-- "A capture is four words in a lent u32 slice: rule, first token, token after the last, and the number of captures around".
abbrev pub capture_words : Capture → List ℕ
capture_words c = c.rule ∷ c.first ∷ c.after ∷ c.around ∷ []

-- A list of captures in so many words: "the slice's words past the list are 0".
abbrev pub list_words : List Capture → ℕ → List ℕ
list_words captures lent = each_words capture_words captures ++ replicate (lent - length captures * 4) 0

-- The lent words afterwards: the list and zeros behind it; as they were where the call is refused.
unfoldable pub list_after : Reading → List ℕ → List ℕ → List ℕ → Start → List ℕ → List ℕ
list_after reading nodes rules words start before =
    afterwards (list_answer reading nodes rules words start (length before))
    (list_words (our_captures reading nodes rules words start) (length before)) before
