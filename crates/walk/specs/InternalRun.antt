-- What the functions around the walk tell one another. No public promise rests on this file.
use Rattle.std.specs.Prelude.{ℕ, ◌*◌, ◌≤◌, ◌<◌, min, ◌≡◌, false, Result, Ok, Err, List, length, get_or}
use Rattle.table.specs.Answer.{given}
use Rattle.table.specs.Words.{each_words}
use Rattle.columns.specs.declared.Start.{Start}
use Rattle.columns.specs.declared.Reading.{Reading}
use Rattle.well_formed.specs.Check.{check_answer}
use Rattle.table.specs.Refusals.{turned_down}
use Rattle.table.specs.declared.refusals.Refusal.{Refusal}
use Rattle.clauses.specs.Limits.{fails11, fails12, fails16}
use Rattle.clauses.specs.RunAnswer.{EndsRun, our_farthest, run_answer}
use Rattle.clauses.specs.ListAnswer.{our_captures, capture_words}
use Rattle.capture_list.specs.Put.{most_count}
use Rattle.walk.specs.declared.Walk.{Walk}
use Rattle.walk.specs.InternalWalk.{outcome_of, farthest_of}

-- None of 3, 4, 5, 7, 11, 12 and 16 applies.
pub record Admitted (reading : Reading) (nodes rules words : List ℕ) (start : Start) : Type 0 where
  pub table : check_answer nodes rules ≡ given tt
  pub tokens : fails11 words ≡ false
  pub start_right : fails12 nodes words start ≡ false
  pub reading_right : fails16 reading nodes start ≡ false

-- What each answer on a run says: that one of them does, or that none does.
abbrev pub Admits : Reading → List ℕ → List ℕ → List ℕ → Start → Result Unit Refusal → Type 0
Admits reading nodes rules words start (Ok x) = Admitted reading nodes rules words start
Admits reading nodes rules words start (Err r) = turned_down r ≡ run_answer reading nodes rules words start

-- So many captures, counted as far as the count goes.
abbrev pub Counted : Reading → List ℕ → List ℕ → List ℕ → Start → ℕ → Type 0
Counted reading nodes rules words start n = n ≡ min (length (our_captures reading nodes rules words start)) most_count

-- What a walk from a start shows: an outcome that is derived, its farthest place, the number of its captures, and where there
-- is room for all of them their words at the list's beginning.
pub record WholeWalk (reading : Reading) (nodes rules words : List ℕ) (start : Start) (list : List ℕ) (w : Walk)
    (list' : List ℕ) : Type 0 where
  pub run : EndsRun reading nodes rules words start (outcome_of w.outcome)
  pub farthest : farthest_of w.outcome ≡ our_farthest reading nodes rules words start
  pub count : Counted reading nodes rules words start w.captures
  pub long : length list' ≡ length list
  pub there :
      length (our_captures reading nodes rules words start) * 4 ≤ length list
      → (i : ℕ)
      → i < length (our_captures reading nodes rules words start) * 4
      → get_or list' i 0 ≡ get_or (each_words capture_words (our_captures reading nodes rules words start)) i 0

-- What a walk shows that counts on from a number: an outcome that is derived and its farthest place; from 0 on, the rest too.
pub record WholeWalkFrom (reading : Reading) (nodes rules words : List ℕ) (start : Start) (from : ℕ) (list : List ℕ) (w : Walk)
    (list' : List ℕ) : Type 0 where
  pub run : EndsRun reading nodes rules words start (outcome_of w.outcome)
  pub farthest : farthest_of w.outcome ≡ our_farthest reading nodes rules words start
  pub long : length list' ≡ length list
  pub whole : from ≡ 0 → WholeWalk reading nodes rules words start list w list'
