-- The label and the parts of a record: bytes copied from the cases to a place where the last part of that kind stands, and
-- bytes that repeat those before them.
use Rattle.std.specs.Prelude.{ℕ, zero, suc, ◌+◌, ◌-◌, min, cond, List, leb, length, drop, get_or, set}
use Rattle.std.proofs.Math.Seq.{paste}
use Rattle.stored_cases.specs.Numbers.{triple_at}

-- How many of n bytes are there from an index on.
abbrev pub here : List ℕ → ℕ → ℕ → ℕ
here cases at n = min n (length cases - at)

-- Where these end.
abbrev pub past : List ℕ → ℕ → ℕ → ℕ
past cases at n = at + here cases at n

-- Where the label ends behind a header at an index; the header's second byte is the label's length.
abbrev pub label_end : List ℕ → ℕ → List ℕ → ℕ
label_end cases at header = past cases (past cases at (length header)) (get_or header 1 0)

-- How many bytes there are from one index to before another.
abbrev pub room : List ℕ → ℕ → ℕ → ℕ
room bytes from end = min end (length bytes) - from

-- The bytes from one index to before another are those of the cases from an index on, as far as there are both.
unfoldable pub filled_by : List ℕ → ℕ → List ℕ → ℕ → ℕ → List ℕ
filled_by cases at bytes from end = paste bytes from (drop at cases) (here cases at (room bytes from end))

-- Each of n bytes from an index on is, one after the other, the byte at the distance before it.
unfoldable pub repeats : ℕ → ℕ → ℕ → List ℕ → List ℕ
repeats zero i distance bytes = bytes
repeats (suc n) i distance bytes = repeats n (i + 1) distance (set bytes i (get_or bytes (i - distance) 0))

-- The same up to before `end`; nothing where the distance leads before the start.
unfoldable pub repeated : List ℕ → ℕ → ℕ → ℕ → List ℕ
repeated bytes from end distance = cond (leb distance from) (repeats (room bytes from end) from distance bytes) bytes

-- A part by five numbers of three bytes: how many bytes are those that stood there, where the bytes end that follow in the
-- cases, a distance, where the bytes end that repeat the one at that distance before them, and the length, up to which the
-- bytes are in the cases again.
module _ (cases : List ℕ) (at : ℕ) (five bytes : List ℕ) where
  abbrev pub headed : List ℕ
  headed = filled_by cases at bytes (triple_at five 0) (triple_at five 3)

  abbrev pub head_end : ℕ
  head_end = past cases at (room bytes (triple_at five 0) (triple_at five 3))

  abbrev pub repeated_part : List ℕ
  repeated_part = repeated headed (triple_at five 3) (triple_at five 9) (triple_at five 6)

  unfoldable pub stored_bytes : List ℕ
  stored_bytes = filled_by cases head_end repeated_part (triple_at five 9) (triple_at five 12)

  unfoldable pub stored_end : ℕ
  stored_end = past cases head_end (room repeated_part (triple_at five 9) (triple_at five 12))
