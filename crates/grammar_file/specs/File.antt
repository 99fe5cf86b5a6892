-- What the file reader answers: numbers 1 to 6, and parts of a file (01, "The grammar file" and "Turned-down calls").
use Rattle.std.specs.Prelude.{ℕ, ◌≤◌, ◌≡◌, Bool, ◌||◌, Result, IfOk, List, [], length, get_or, ltb}
use Rattle.table.specs.Answer.{Answer, given, refused, refused_at, refuse_if, and_then}
use Rattle.table.specs.Refusals.{answer_by}
use Rattle.table.specs.declared.refusals.Refusal.{Refusal}
use Rattle.file_fields.specs.Fields.{Field}
use Rattle.file_fields.specs.Offsets.{keywords_from}
pub use Rattle.file_tables.specs.Tables.{rule_node, four_words, words_of}
pub use Rattle.file_shape.specs.Contents.{most_bytes, most_keywords, start_node, start_mode, fields_of}
pub use Rattle.file_shape.specs.declared.Contents.{Contents}
unfoldable pub use Rattle.file_shape.specs.Contents.{right_value, right_values, keywords, rule_list, rule_names, node_table}
unfoldable pub use Rattle.file_shape.specs.Contents.{start_value, unreadable, fails1, fails2, fails5_by_file, contents}
unfoldable pub use Rattle.file_shape.specs.Contents.{file_answer}

-- 6: "a lent slice too short for what is to be written": the numbers of words lent for the nodes and for the rules.
unfoldable pub fails6 : List Field → ℕ → ℕ → Bool
fails6 fs nodes_lent rules_lent = ltb nodes_lent (length (node_table fs)) || ltb rules_lent (length (rule_list fs))

-- What the file reader answers: the first of 1 to 6 that fails, or the counts and the start.
unfoldable pub read_answer : List ℕ → ℕ → ℕ → Answer Contents
read_answer file nodes_lent rules_lent =
    and_then (file_answer file)
    (refuse_if (fails6 (fields_of file) nodes_lent rules_lent) 6
    (given (contents (fields_of file))))

-- The answer of a reader: what the file holds, or the number of a check.
abbrev pub numbers : Result Contents Refusal → Answer Contents
numbers = answer_by (λ x. x)

-- The keywords of a file that is read stand one behind the other from offset 4 on, for lookups by offset.
abbrev pub KeywordsStand : List ℕ → Result Contents Refusal → Type 0
KeywordsStand file r =
    IfOk r (λ c. (keywords (fields_of file) ≡ keywords_from file c.keywords) × (c.keywords ≤ most_keywords))

-- A part of a file that passes 1 to 5; nothing of any other.
abbrev pub part_of : Answer Contents → List ℕ → List ℕ
part_of (given c) part = part
part_of (refused n) part = []
part_of (refused_at n node) part = []

-- The bytes of keyword k, none where there is no such keyword.
unfoldable pub keyword_bytes : List ℕ → ℕ → List ℕ
keyword_bytes file k = part_of (file_answer file) (get_or (keywords (fields_of file)) k [])

-- The bytes of rule r's name, none where there is no such rule.
unfoldable pub name_bytes : List ℕ → ℕ → List ℕ
name_bytes file r = part_of (file_answer file) (get_or (rule_names (fields_of file)) r [])
