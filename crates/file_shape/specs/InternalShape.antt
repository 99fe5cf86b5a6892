-- What the private functions that find a file's shape promise one another. No public promise rests on this file.
use Rattle.std.specs.Prelude.{ℕ, ◌<◌, ◌≡◌, Bool, true, false, ◌&&◌, Option, MatchOption, List, length, get_or, leb, eqb}
use Rattle.file_fields.specs.Offsets.{next_at, offset_of, right_at}
use Rattle.file_shape.specs.Contents.{most_bytes, fails1}
use Rattle.file_shape.specs.Shape.{Parts}
use Rattle.file_shape.specs.declared.runs.Run.{Run}
use Rattle.file_shape.specs.declared.Shape.{Shape}

-- Whether a file is not over length, begins with tag 1 and its byte, and ends with a tag 5 at an offset.
unfoldable pub framed_by : List ℕ → ℕ → Bool
framed_by file start =
    leb (length file) most_bytes
    && right_at file 0 1
    && eqb (get_or file 3 0) 1
    && right_at file start 5
    && eqb (next_at file start) (length file)

-- The longest run of such fields from an offset on.
pub record LongestRun (file : List ℕ) (at t : ℕ) (r : Run) : Type 0 where
  pub ends : r.end ≡ offset_of file at r.count
  pub each : (i : ℕ) → i < r.count → right_at file (offset_of file at i) t ≡ true
  pub stops : right_at file r.end t ≡ false

-- The shape of a file, there exactly if number 1 passes.
abbrev pub Shaped : List ℕ → Option Shape → Type 0
Shaped file o = MatchOption o (fails1 file ≡ true) (λ s. Parts file s)
