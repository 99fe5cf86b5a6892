-- What a part of a walk leaves of the list of captures. No public promise rests on this file.
use Rattle.std.specs.Prelude.{ℕ, ◌+◌, ◌*◌, ◌≤◌, ◌<◌, ◌^◌, min, ◌≡◌, List, length, get_or}
use Rattle.table.specs.Words.{each_words}
use Rattle.columns.specs.declared.Capture.{Capture}
use Rattle.columns.specs.declared.State.{State}
use Rattle.columns.specs.declared.Outcome.{Outcome}
use Rattle.columns.specs.declared.Outcome.TheVariants.{Success, Failure}
use Rattle.clauses.specs.Trace.{Trace}
use Rattle.clauses.specs.ListAnswer.{capture_words}
use Rattle.capture_list.specs.Put.{most_count}
use Rattle.capture_list.specs.declared.Counts.{Counts}

-- Counts with so many captures around, and so many so far.
abbrev pub with_counts : ℕ → ℕ → Counts
with_counts around so_far = record { around = around; so_far = so_far }

-- What a part asks: room for so many levels more, a count that has not passed its end, and a slice.
pub record Room (levels : ℕ) (counts : Counts) (list : List ℕ) : Type 0 where
  pub deep : counts.around + levels < 2 ^ 32
  pub count : counts.so_far ≤ most_count
  pub long : length list < 2 ^ 64

-- The captures around are as many as before, and the words of those so far are as they were.
pub record Keeps (counts : Counts) (list : List ℕ) (counts' : Counts) (list' : List ℕ) : Type 0 where
  pub around : counts'.around ≡ counts.around
  pub long : length list' ≡ length list
  pub before : (i : ℕ) → i < counts.so_far * 4 → get_or list' i 0 ≡ get_or list i 0

-- The captures that a trace shows, with those around.
abbrev pub shown_in : Counts → Trace → List Capture
shown_in counts t = t.captures counts.around

-- And those that a trace shows are counted, and stand behind them where there is room for all.
pub record Lists (t : Trace) (counts : Counts) (list : List ℕ) (counts' : Counts) (list' : List ℕ) : Type 0 where
  pub keeps : Keeps counts list counts' list'
  pub count : counts'.so_far ≡ min (counts.so_far + length (shown_in counts t)) most_count
  pub there :
      (counts.so_far + length (shown_in counts t)) * 4 ≤ length list
      → (i : ℕ)
      → i < length (shown_in counts t) * 4
      → get_or list' (counts.so_far * 4 + i) 0 ≡ get_or (each_words capture_words (shown_in counts t)) i 0

-- What a part leaves, by its outcome: after a failure the count may be any.
pub data Leaves (t : Trace) (counts : Counts) (list : List ℕ) (counts' : Counts) (list' : List ℕ) : Outcome → Type 0 where
  lists : {u : State} → Lists t counts list counts' list' → Leaves t counts list counts' list' (Success u)
  keeps : {farthest : ℕ} → Keeps counts list counts' list' → Leaves t counts list counts' list' (Failure farthest)
