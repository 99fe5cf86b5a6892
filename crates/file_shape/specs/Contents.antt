-- What a grammar file stands for, and numbers 1 to 5 of the file reader (01, "The grammar file" and "Turned-down calls").
use Rattle.std.specs.Prelude.{ℕ, Bool, true, not, ◌&&◌, ◌||◌, List, [], ◌∷◌, map, length, get_or, drop, ltb, eqb}
use Rattle.std.proofs.Math.Option
use Rattle.std.proofs.Math.Option.{Option, some, none}
use Rattle.table.specs.Answer.{Answer, given, refuse_if}
use Rattle.table.specs.Every.{every}
use Rattle.table.specs.Form.{node_count}
use Rattle.table.specs.Checks.{fails3, fails4, fails5, is_relation}
use Rattle.file_fields.specs.Fields.{Field, two_bytes, fields, in_order, tagged, right_length}
use Rattle.spellings.specs.Spellings.{single_alone, right_spellings}
use Rattle.file_tables.specs.Tables.{rule_node, words_of}
-- "A read answers the counts of nodes, rules and keywords and the start."
pub use Rattle.file_shape.specs.declared.Contents.{Contents}

-- "At most 65,535 bytes"
abbrev pub most_bytes : ℕ
most_bytes = 65535

-- "At most 253 keywords"
abbrev pub most_keywords : ℕ
most_keywords = 253

-- A value has its tag's length, and tag 1's is "the byte 1".
unfoldable pub right_value : Field → Bool
right_value f = right_length f.tag (length f.value) && (not (eqb f.tag 1) || eqb (get_or f.value 0 0) 1)

-- The same of every field.
unfoldable pub right_values : List Field → Bool
right_values [] = true
right_values (f ∷ fs) = right_value f && right_values fs

-- "tag 2, a keyword": the bytes of each.
unfoldable pub keywords : List Field → List (List ℕ)
keywords fs = map (λ f. f.value) (tagged 2 fs)

-- "a rule: two-byte node number, then its name": the rule list, the node of each rule.
unfoldable pub rule_list : List Field → List ℕ
rule_list fs = map rule_node (tagged 3 fs)

-- The name of each rule.
unfoldable pub rule_names : List Field → List (List ℕ)
rule_names fs = map (λ f. drop 2 f.value) (tagged 3 fs)

-- The table: "four words a node", of the fields of tag 4.
unfoldable pub node_table : List Field → List ℕ
node_table fs = words_of (tagged 4 fs)

-- "tag 5, once and last: start node (two bytes), start mode (one)": the value.
unfoldable pub start_value : List Field → List ℕ
start_value fs = get_or (map (λ f. f.value) (tagged 5 fs)) 0 []

-- The start node.
abbrev pub start_node : List Field → ℕ
start_node fs = two_bytes (get_or (start_value fs) 0 0) (get_or (start_value fs) 1 0)

-- The start mode.
abbrev pub start_mode : List Field → ℕ
start_mode fs = get_or (start_value fs) 2 0

-- The fields of a file; none where one is cut short.
abbrev pub fields_of : List ℕ → List Field
fields_of file = Option.get_or (fields file) []

-- 1: "a field cut short ..": no fields, tags out of order, a wrong value, or too many keywords.
unfoldable pub unreadable : Option (List Field) → Bool
unreadable none = true
unreadable (some fs) = not (in_order fs) || not (right_values fs) || ltb most_keywords (length (keywords fs))

-- 1: "file over length", and the others.
unfoldable pub fails1 : List ℕ → Bool
fails1 file = ltb most_bytes (length file) || unreadable (fields file)

-- 2: "keyword or name breaks its rules, length too"
unfoldable pub fails2 : List Field → Bool
fails2 fs =
    not (right_spellings (keywords fs)
    && every (length (keywords fs)) (λ k. single_alone (get_or (keywords fs) k []))
    && right_spellings (rule_names fs))

-- 5: "a rule's node, or a file's start node, not in the table ..": of a table, its rules and a start node and mode.
abbrev pub fails5_with : List ℕ → List ℕ → ℕ → ℕ → Bool
fails5_with nodes rules node mode = fails5 nodes rules || not (ltb node (node_count nodes)) || not (is_relation mode)

-- 5 of a file.
unfoldable pub fails5_by_file : List Field → Bool
fails5_by_file fs = fails5_with (node_table fs) (rule_list fs) (start_node fs) (start_mode fs)

-- The counts and the start of the fields of a file.
unfoldable pub contents : List Field → Contents
contents fs =
    record {
      nodes = node_count (node_table fs);
      rules = length (rule_list fs);
      keywords = length (keywords fs);
      start = start_node fs;
      mode = start_mode fs;
    }

-- What a file stands for, or the first of 1 to 5 that fails. Numbers 3 and 4 are those of the file's table and rule list.
unfoldable pub file_answer : List ℕ → Answer Contents
file_answer file =
    refuse_if (fails1 file) 1
    (refuse_if (fails2 (fields_of file)) 2
    (refuse_if (fails3 (node_table (fields_of file)) (rule_list (fields_of file))) 3
    (refuse_if (fails4 (node_table (fields_of file)) (rule_list (fields_of file))) 4
    (refuse_if (fails5_by_file (fields_of file)) 5
    (given (contents (fields_of file)))))))
