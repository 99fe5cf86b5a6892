-- The grammar file of a table, its rules and a start, with the keywords and rule names of a file that lends them, and what
-- the writer answers (02, Note 4; 01, "The grammar file" and "Turned-down calls").
use Rattle.std.specs.Prelude.{ℕ, Bool, not, Result, List, [], ◌∷◌, ◌++◌, length, get_or, ltb, eqb}
use Rattle.table.specs.Words.{tabulate}
use Rattle.table.specs.Answer.{Answer, given, refuse_if, and_then}
use Rattle.table.specs.Refusals.{answer_by}
use Rattle.table.specs.declared.refusals.Refusal.{Refusal}
use Rattle.table.specs.Form.{kind_of, a_of, b_of, relation_of, node_count, stands_for}
use Rattle.table.specs.Checks.{fails3, fails4}
use Rattle.file_fields.specs.Fields.{Field}
use Rattle.file_shape.specs.Contents.{keywords, rule_list, rule_names, fields_of, fails5_with, file_answer}
use Rattle.grammar_writer.specs.FieldBytes.{bytes_of, format_field, keyword_field, rule_field, node_field, start_field}

-- Tag 2: each keyword.
abbrev pub keyword_fields : List (List ℕ) → List Field
keyword_fields words = tabulate (length words) (λ k. keyword_field (get_or words k []))

-- Tag 3: each rule's node, and the name of the same number.
abbrev pub rule_fields : List ℕ → List (List ℕ) → List Field
rule_fields rules names = tabulate (length rules) (λ r. rule_field (stands_for rules r) (get_or names r []))

-- Tag 4: each node's four words.
abbrev pub node_fields : List ℕ → List Field
node_fields nodes = tabulate (node_count nodes) (λ n. node_field (kind_of nodes n) (a_of nodes n) (b_of nodes n) (relation_of nodes n))

-- The fields of the file, "in this order": tag 1, the keywords, the rules, the nodes, the start.
abbrev pub written_fields : (words names : List (List ℕ)) (nodes rules : List ℕ) (node mode : ℕ) → List Field
written_fields words names nodes rules node mode =
    format_field ∷ (keyword_fields words ++ rule_fields rules names ++ node_fields nodes ++ (start_field node mode ∷ []))

-- The file: "the tables, a start, and a valid grammar file that lends its keywords and rule names" (02, Note 4).
unfoldable pub written_file : (lending nodes rules : List ℕ) (node mode : ℕ) → List ℕ
written_file lending nodes rules node mode =
    bytes_of (written_fields (keywords (fields_of lending)) (rule_names (fields_of lending)) nodes rules node mode)

-- 15: "rule count differs from the lending file's"
unfoldable pub fails15 : (lending rules : List ℕ) → Bool
fails15 lending rules = not (eqb (length rules) (length (rule_list (fields_of lending))))

-- What the writer answers, by the number of bytes lent: the first check that fails, or the number of bytes of the file.
-- "the lending file by 1 to 5, the tables and start by 3 to 5, then the new one, then 6" (02, Note 4)
unfoldable pub write_answer : (lending nodes rules : List ℕ) (node mode lent : ℕ) → Answer ℕ
write_answer lending nodes rules node mode lent =
    and_then (file_answer lending)
    (refuse_if (fails3 nodes rules) 3
    (refuse_if (fails4 nodes rules) 4
    (refuse_if (fails5_with nodes rules node mode) 5
    (refuse_if (fails15 lending rules) 15
    (refuse_if (ltb lent (length (written_file lending nodes rules node mode))) 6
    (given (length (written_file lending nodes rules node mode))))))))

-- The answer of a writer: the number of bytes, or the number of a check.
abbrev pub numbers : Result ℕ Refusal → Answer ℕ
numbers = answer_by (λ n. n)
