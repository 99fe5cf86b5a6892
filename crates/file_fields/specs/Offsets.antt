-- Fields by their offset in a byte list, total on all bytes and offsets: the byte past the end reads as 0, and what is
-- cut short ends at the end.
use Rattle.std.specs.Prelude.{ℕ, zero, suc, ◌+◌, min, Bool, ◌&&◌, List, [], ◌∷◌, ◌++◌, map, length, get_or, take, drop, leb, eqb}
use Rattle.file_fields.specs.Fields.{Field, two_bytes, right_length}

-- The two-byte length that stands behind a tag.
abbrev pub length_at : List ℕ → ℕ → ℕ
length_at file at = two_bytes (get_or file (at + 1) 0) (get_or file (at + 2) 0)

-- The value of the field at an offset.
unfoldable pub value_at : List ℕ → ℕ → List ℕ
value_at file at = take (length_at file at) (drop (at + 3) file)

-- The offset of the field behind it.
unfoldable pub next_at : List ℕ → ℕ → ℕ
next_at file at = min (at + 3 + length_at file at) (length file)

-- The field at an offset.
abbrev pub field_at : List ℕ → ℕ → Field
field_at file at = record { tag = get_or file at 0; value = value_at file at }

-- Whether a whole field of a tag, its value of the tag's length, stands at an offset.
unfoldable pub right_at : List ℕ → ℕ → ℕ → Bool
right_at file at t = leb (at + 3 + length_at file at) (length file) && (eqb (get_or file at 0) t && right_length t (length_at file at))

-- The offset of the field that is k fields behind the one at an offset.
unfoldable pub offset_of : List ℕ → ℕ → ℕ → ℕ
offset_of file at zero = at
offset_of file at (suc k) = next_at file (offset_of file at k)

-- The k fields from an offset on.
unfoldable pub fields_from : List ℕ → ℕ → ℕ → List Field
fields_from file at zero = []
fields_from file at (suc k) = fields_from file at k ++ (field_at file (offset_of file at k) ∷ [])

-- The spellings of some fields from an offset on: their values without the first bytes.
unfoldable pub spellings_from : List ℕ → ℕ → ℕ → ℕ → List (List ℕ)
spellings_from file at count skip = map (λ f. drop skip f.value) (fields_from file at count)

-- The spellings of count keywords, the first of them at offset 4.
unfoldable pub keywords_from : List ℕ → ℕ → List (List ℕ)
keywords_from file count = map (λ f. f.value) (fields_from file 4 count)
