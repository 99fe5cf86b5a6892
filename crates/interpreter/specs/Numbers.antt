-- What the answers of a run and of a run that lists stand for. `clauses: RunAnswer` and `clauses: ListAnswer` say which is
-- right.
use Rattle.std.specs.Prelude.{ℕ, ◌+◌, ◌≡◌, Result, Ok, Err, List, length}
use Rattle.table.specs.Answer.{Answer}
use Rattle.table.specs.Refusals.{answer_by}
use Rattle.table.specs.declared.refusals.Refusal.{Refusal}
use Rattle.columns.specs.declared.State.{State}
use Rattle.columns.specs.declared.Start.{Start}
use Rattle.columns.specs.declared.Reading.{Reading}
use Rattle.clauses.specs.Clauses.{success, failure}
use Rattle.clauses.specs.RunAnswer.{EndsRun, ends_farthest, Ended, Reads}
use Rattle.clauses.specs.ListAnswer.{ends_captures, Listing, list_words}
use Rattle.interpreter.specs.declared.Ran.{Ran}
use Rattle.interpreter.specs.declared.Ran.TheVariants.{Success, Failure}
use Rattle.interpreter.specs.declared.Listed.{Listed}
use Rattle.interpreter.specs.declared.Listed.TheVariants as listed

-- What a failure with a farthest place says a run ends in.
abbrev pub failing : ℕ → Ended
failing farthest = record { outcome = failure; farthest = farthest }

-- What each case of `Ran` says that a run ends in which began at a place: "the number of tokens read from that place on ..".
abbrev pub ran_to : ℕ → Ran → Ended
ran_to place (Success read s) = record { outcome = success (place + read, s.interval, s.flag); farthest = s.farthest }
ran_to place (Failure farthest) = failing farthest

-- 01's number and values for each answer, for a run that began at a place: "both success and failure" with the farthest place
-- (02, Note 7), or the refusal.
abbrev pub numbers : ℕ → Result Ran Refusal → Answer Ended
numbers place = answer_by (ran_to place)

-- An outcome and a farthest place come from one and the same derivation by the ten clauses over two ends.
pub record Looked (reading : Reading) (nodes rules words : List ℕ) (start : Start) (x : Ended) : Type 0 where
  pub run : EndsRun reading nodes rules words start x.outcome
  pub looked : x.farthest ≡ ends_farthest reading nodes rules words start x.outcome run

-- What a state says a run ends in.
abbrev pub end_of : State → Ended
end_of s = record { outcome = success (s.place, s.interval, s.flag); farthest = s.farthest }

-- The answer has a derivation, and the state's place is where the tokens read end.
abbrev pub Derived : Reading → List ℕ → List ℕ → List ℕ → Start → Result Ran Refusal → Type 0
Derived reading nodes rules words start (Ok (Success read s)) =
    Looked reading nodes rules words start (end_of s) × Reads start.place read s.place
Derived reading nodes rules words start (Ok (Failure farthest)) = Looked reading nodes rules words start (failing farthest)
Derived reading nodes rules words start (Err refusal) = Unit

-- The same for each case of `Listed`; a success also has the number of captures, since a capture may be four zeros.
abbrev pub listed_to : ℕ → Listed → Listing
listed_to place (listed.Success read s n) = record { ended = ran_to place (Success read s); count = n }
listed_to place (listed.Failure farthest) = record { ended = ran_to place (Failure farthest); count = 0 }

-- 01's number and values for each answer of a run that lists.
abbrev pub list_numbers : ℕ → Result Listed Refusal → Answer Listing
list_numbers place = answer_by (listed_to place)

-- A run's end has a derivation whose captures, so many, stand in the slice.
pub record CapturesStand (reading : Reading) (nodes rules words : List ℕ) (start : Start) (x : Ended) (n : ℕ)
    (slice : List ℕ) : Type 0 where
  pub derived : Looked reading nodes rules words start x
  pub counted : n ≡ length (ends_captures reading nodes rules words start x.outcome derived.run)
  pub stands : slice ≡ list_words (ends_captures reading nodes rules words start x.outcome derived.run) (length slice)

-- The outcome of a run that lists, its farthest place and its captures come from one and the same derivation.
abbrev pub ListDerived : Reading → List ℕ → List ℕ → List ℕ → Start → Result Listed Refusal → List ℕ → Type 0
ListDerived reading nodes rules words start (Ok (listed.Success read s n)) slice =
    CapturesStand reading nodes rules words start (end_of s) n slice × Reads start.place read s.place
ListDerived reading nodes rules words start (Ok (listed.Failure farthest)) slice =
    CapturesStand reading nodes rules words start (failing farthest) 0 slice
ListDerived reading nodes rules words start (Err refusal) slice = Unit
