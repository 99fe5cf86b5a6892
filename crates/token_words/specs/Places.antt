-- Where the tokens of a report stand (01, "The scanner"): a token begins at a single byte, at the first byte of a
-- longest run, and at the end of a line that has had a token.
use Rattle.std.specs.Prelude.{ℕ, zero, suc, Bool, true, false, cond, List, [], ◌∷◌, ◌++◌, length, get_or, drop}
use Rattle.byte_class.specs.Bytes.{class_of}
use Rattle.byte_class.specs.declared.Class.{Class}
use Rattle.byte_class.specs.declared.Class.TheVariants.{Break, Tab, Blank, Single, Digit, Run, Continuation, Refused}
use Rattle.places.specs.Columns.{column_at}
use Rattle.places.specs.Places.{in_run, run_length}
use Rattle.places.specs.declared.Place.{Place}

-- Whether the byte before an offset belongs to a run, so that no run begins there.
unfoldable pub mid_run : List ℕ → ℕ → Bool
mid_run text zero = false
mid_run text (suc i) = in_run (get_or text i 0)

-- Whether a line has had a token, behind a byte of a class: a line's end begins a new line, and single and run bytes
-- are tokens.
abbrev pub mark_by : Class → Bool → Bool
mark_by Break m = false
mark_by Tab m = m
mark_by Blank m = m
mark_by Single m = true
mark_by Digit m = true
mark_by Run m = true
mark_by Continuation m = true
mark_by Refused m = m

-- The same behind a byte.
unfoldable pub mark_after : ℕ → Bool → Bool
mark_after byte m = mark_by (class_of byte) m

-- Whether the line at an offset has had a token.
unfoldable pub had_token : List ℕ → ℕ → Bool
had_token text zero = false
had_token text (suc i) = mark_after (get_or text i 0) (had_token text i)

-- "A line with a token ends in a token ..": where the break or the end is, with length 0.
abbrev pub line_end : Bool → ℕ → ℕ → List Place
line_end had c o = cond had (record { ends = true; column = c; offset = o; length = 0 } ∷ []) []

-- A single byte or a run: its column, offset and length.
abbrev pub spelling : ℕ → ℕ → ℕ → List Place
spelling c o n = record { ends = false; column = c; offset = o; length = n } ∷ []

-- The token that begins at a byte of a class, if one does: whether the line has had a token, whether the byte before
-- belongs to a run, the column, the offset and the length of the run that begins here.
abbrev pub place_by : Class → Bool → Bool → ℕ → ℕ → ℕ → List Place
place_by Break had mid c o n = line_end had c o
place_by Tab had mid c o n = []
place_by Blank had mid c o n = []
place_by Single had mid c o n = spelling c o 1
place_by Digit had mid c o n = cond mid [] (spelling c o n)
place_by Run had mid c o n = cond mid [] (spelling c o n)
place_by Continuation had mid c o n = cond mid [] (spelling c o n)
place_by Refused had mid c o n = []

-- The token that begins at an offset, if one does.
unfoldable pub place_at : List ℕ → ℕ → List Place
place_at text i = place_by (class_of (get_or text i 0)) (had_token text i) (mid_run text i) (column_at text i) i (run_length (drop i text))

-- The tokens that begin at n bytes from an offset on.
unfoldable pub places_at : List ℕ → ℕ → ℕ → List Place
places_at text i zero = []
places_at text i (suc n) = place_at text i ++ places_at text (suc i) n

-- Those of a text: at each byte, and "also at the end of the text".
unfoldable pub places : List ℕ → List Place
places text = places_at text 0 (length text) ++ line_end (had_token text (length text)) (column_at text (length text)) (length text)
