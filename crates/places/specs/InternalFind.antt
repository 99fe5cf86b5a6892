-- What the private functions of this crate promise one another. No public promise rests on this file.
use Rattle.std.specs.Prelude.{ℕ, ◌+◌, ◌-◌, ◌*◌, ◌^◌, ◌≤◌, ◌<◌, ◌≡◌, Bool, true, false, not, List, length, get_or, take, drop}
use Rattle.byte_class.specs.Bytes.{class_of}
use Rattle.byte_class.specs.declared.Class.{Class}
use Rattle.byte_class.specs.declared.Class.TheVariants.{Break, Tab, Blank, Single, Digit, Run, Continuation, Refused}
use Rattle.places.specs.Columns.{column_over}
use Rattle.places.specs.Places.{run_length}
use Rattle.places.specs.Moves.{next_in}
use Rattle.places.specs.declared.Position.{Position}

-- A byte that begins and ends no token.
abbrev pub passed_by : Class → Bool → Bool
passed_by Break m = not m
passed_by Tab m = true
passed_by Blank m = true
passed_by Single m = false
passed_by Digit m = false
passed_by Run m = false
passed_by Continuation m = false
passed_by Refused m = true

unfoldable pub passed_over : ℕ → Bool → Bool
passed_over byte m = passed_by (class_of byte) m

-- An offset in a text, and a column that no byte behind it makes too large.
pub record Room (text : List ℕ) (at column : ℕ) : Type 0 where
  pub within : at ≤ length text
  pub fits : column + 8 * (length text - at) < 2 ^ 32

-- A position behind bytes that are passed over: the same place follows.
pub record Past (text : List ℕ) (from s : Position) : Type 0 where
  pub room : Room text s.offset s.column
  pub same : next_in text from ≡ next_in text s

-- The first byte from a position on that is not passed over, or the end.
pub record Skipped (text : List ℕ) (from s : Position) : Type 0 where
  pub room : Room text s.offset s.column
  pub same : next_in text from ≡ next_in text s
  pub stops : s.offset < length text → passed_over (get_or text s.offset 0) s.mark ≡ false

-- Where the run that is at a position, or goes on there, ends.
pub record RunEnd (text : List ℕ) (from s : Position) : Type 0 where
  pub ends : s.offset ≡ from.offset + run_length (drop from.offset text)
  pub within : s.offset ≤ length text
  pub column : s.column ≡ column_over (take (run_length (drop from.offset text)) (drop from.offset text)) from.column
  pub mark : s.mark ≡ from.mark
