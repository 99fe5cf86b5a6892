-- The bytes of fields (01, "The grammar file"), and the field of each tag.
use Rattle.std.specs.Prelude.{ℕ, ◌/◌, ◌%◌, List, [], ◌∷◌, ◌++◌, length}
use Rattle.table.specs.Words.{each_words}
use Rattle.file_fields.specs.Fields.{Field}

-- "Two-byte numbers inside values are high byte first."
abbrev pub number_bytes : ℕ → List ℕ
number_bytes n = n / 256 ∷ n % 256 ∷ []

-- "one-byte tag, two-byte length (high byte first), value"
unfoldable pub field_bytes : Field → List ℕ
field_bytes f = f.tag ∷ (number_bytes (length f.value) ++ f.value)

-- The bytes of fields, one field behind the other.
abbrev pub bytes_of : List Field → List ℕ
bytes_of fs = each_words field_bytes fs

-- A field by its tag and its value.
abbrev pub field : ℕ → List ℕ → Field
field t v = record { tag = t; value = v }

-- "tag 1, once, value the byte 1"
abbrev pub format_field : Field
format_field = field 1 (1 ∷ [])

-- "tag 2, a keyword"
abbrev pub keyword_field : List ℕ → Field
keyword_field word = field 2 word

-- "tag 3, a rule: two-byte node number, then its name"
abbrev pub rule_field : ℕ → List ℕ → Field
rule_field node name = field 3 (number_bytes node ++ name)

-- "tag 4, a node: kind (one byte), a (two), b (two), relation (one)"
abbrev pub node_field : ℕ → ℕ → ℕ → ℕ → Field
node_field kind a b relation = field 4 (kind ∷ (number_bytes a ++ number_bytes b ++ (relation ∷ [])))

-- "tag 5, once and last: start node (two bytes), start mode (one)"
abbrev pub start_field : ℕ → ℕ → Field
start_field node mode = field 5 (number_bytes node ++ (mode ∷ []))
