-- The next place from a position in a report on (01, "The scanner": "One value carries the report text .."). A position is
-- where a value stands: the offset and column reached, and whether the line there has had a token. A move is the next
-- place, if there is one, and the position behind it.
use Rattle.std.specs.Prelude.{ℕ, ◌+◌, ◌-◌, ◌*◌, Bool, true, false, cond, ◌||◌, Some, None, List, [], ◌∷◌, length, take, drop, ltb}
use Rattle.byte_class.specs.Bytes.{class_of}
use Rattle.byte_class.specs.declared.Class.{Class}
use Rattle.byte_class.specs.declared.Class.TheVariants.{Break, Tab, Blank, Single, Digit, Run, Continuation, Refused}
use Rattle.places.specs.Columns.{column_after, column_over}
use Rattle.places.specs.Places.{run_length}
use Rattle.places.specs.declared.Position.{Position}
use Rattle.places.specs.declared.Move.{Move}

-- The position at an offset, a column and a mark.
abbrev pub position : ℕ → ℕ → Bool → Position
position o c m = record { offset = o; column = c; mark = m }

-- The move that finds a place and goes to a position.
abbrev pub move : Bool → ℕ → ℕ → ℕ → Position → Move
move ends c o n to = record { found = Some (record { ends = ends; column = c; offset = o; length = n }); reached = to }

-- What stands first in the bytes from an offset on, at a class: a line's end if the line has had a token, behind the
-- break at column 0; a single byte; a run; or what the bytes behind this one have.
abbrev pub move_by : Class → Bool → ℕ → ℕ → ℕ → ℕ → ℕ → Move → Move
move_by Break m o c next n after rest = cond m (move true c o 0 (position (o + 1) 0 false)) rest
move_by Tab m o c next n after rest = rest
move_by Blank m o c next n after rest = rest
move_by Single m o c next n after rest = move false c o 1 (position (o + 1) next true)
move_by Digit m o c next n after rest = move false c o n (position (o + n) after true)
move_by Run m o c next n after rest = move false c o n (position (o + n) after true)
move_by Continuation m o c next n after rest = move false c o n (position (o + n) after true)
move_by Refused m o c next n after rest = rest

-- The next place in the bytes from an offset on. At the end of the text a line that has had a token ends, its column
-- kept; "after the last token the answer is none ..", and the offset is the end's.
unfoldable pub next_place : List ℕ → ℕ → ℕ → Bool → Move
next_place [] o c true = move true c o 0 (position o c false)
next_place [] o c false = record { found = None; reached = position o c false }
next_place (b ∷ bytes) o c m =
    move_by (class_of b) m o c (column_after b c) (run_length (b ∷ bytes))
    (column_over (take (run_length (b ∷ bytes)) (b ∷ bytes)) c) (next_place bytes (o + 1) (column_after b c) m)

-- From a position in a text.
abbrev pub next_in : List ℕ → Position → Move
next_in text p = next_place (drop p.offset text) p.offset p.column p.mark

-- The same from any position: nothing, and the position itself, where the offset is past the text or the bytes behind it
-- could bring the column over 32 bits.
unfoldable pub next_within : List ℕ → Position → Move
next_within text p =
    cond (ltb (length text) p.offset || ltb 4294967295 (p.column + 8 * (length text - p.offset)))
    (record { found = None; reached = p }) (next_in text p)
