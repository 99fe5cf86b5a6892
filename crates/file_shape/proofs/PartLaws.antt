-- What a file whose fields are known by offset stands for.
use Prim.Native.Nat.{ℕ}
use mathlib.Core.Path.{◌≡◌, refl, sym, ap, ap₂, ◌∙◌}
use mathlib.Core.Bool.{Bool, true, false, not, ◌&&◌, ◌||◌}
use mathlib.Core.List.{List, [], map}
use lib.ListN.{length, get_or, drop}
use lib.Dec.{ltb}
use native.Mathlib.Omega.{arith}
use Rattle.table.specs.Answer.{Answer, given, refused, refuse_if, and_then}
use Rattle.table.specs.Refusals.{turned_down}
use Rattle.table.specs.declared.refusals.Refusal.{Refusal}
use Rattle.table.specs.Every.{every}
use Rattle.table.specs.Limits.{relation_count}
use Rattle.table.specs.Form.{node_count}
use Rattle.table.specs.Checks.{table_answer, fails3, fails4, fails5}
use Rattle.file_fields.specs.Fields.{Field, two_bytes}
use Rattle.spellings.specs.Spellings.{single_alone, right_spellings}
use Rattle.file_tables.specs.Tables.{rule_node, words_of, node_words, rule_nodes}
use Rattle.file_shape.specs.Contents.{keywords, rule_names, rule_list, node_table, start_value, start_node, start_mode}
use Rattle.file_shape.specs.Contents.{fields_of, fails2, fails5_by_file, contents, file_answer}
use Rattle.file_fields.specs.Offsets.{value_at, fields_from, spellings_from}
use Rattle.file_shape.specs.Shape.{Parts}
use Rattle.file_shape.specs.declared.Shape.{Shape}
use Rattle.file_fields.proofs.Offsets.{length_spellings}
use Rattle.file_tables.proofs.TableLaws.{length_rules, count_nodes}
use Rattle.table.proofs.AnswerLaws.{turned_first}

module _ (file : List ℕ) (s : Shape) (p : Parts file s) where
  pub keywords_are : keywords (fields_of file) ≡ spellings_from file 4 s.keywords 0
  unfolding keywords spellings_from
  keywords_are = ap (map (λ f. f.value)) p.keyword_fields

  pub names_are : rule_names (fields_of file) ≡ spellings_from file s.rules.at s.rules.count 2
  unfolding rule_names spellings_from
  names_are = ap (map (λ f. drop 2 f.value)) p.rule_fields

  pub rules_are : rule_list (fields_of file) ≡ map rule_node (fields_from file s.rules.at s.rules.count)
  unfolding rule_list
  rules_are = ap (map rule_node) p.rule_fields

  pub nodes_are : node_table (fields_of file) ≡ words_of (fields_from file s.nodes.at s.nodes.count)
  unfolding node_table
  nodes_are = ap words_of p.node_fields

  pub start_is : start_value (fields_of file) ≡ value_at file s.start
  unfolding start_value
  start_is = ap (λ (fs : List Field). get_or (map (λ f. f.value) fs) 0 []) p.start_field

  pub node_count_lem : node_count (node_table (fields_of file)) ≡ s.nodes.count
  node_count_lem = ap node_count nodes_are ∙ count_nodes file s.nodes.at s.nodes.count

  pub rule_count : length (rule_list (fields_of file)) ≡ s.rules.count
  rule_count = ap length rules_are ∙ length_rules file s.rules.at s.rules.count

  pub keyword_count : length (keywords (fields_of file)) ≡ s.keywords
  keyword_count = ap length keywords_are ∙ length_spellings file 4 s.keywords 0

-- Number 2 by the spellings at their offsets.
pub names_by : (file : List ℕ) (s : Shape) → Parts file s
    → not (right_spellings (spellings_from file 4 s.keywords 0)
    && every (length (spellings_from file 4 s.keywords 0)) (λ k. single_alone (get_or (spellings_from file 4 s.keywords 0) k []))
    && right_spellings (spellings_from file s.rules.at s.rules.count 2)) ≡ fails2 (fields_of file)
unfolding fails2
names_by file s p =
    ap₂ (λ (ks ns : List (List ℕ)). not (right_spellings ks && every (length ks) (λ k. single_alone (get_or ks k [])) && right_spellings ns))
    (sym (keywords_are file s p)) (sym (names_are file s p))

-- Number 5 with two tests more is a table's numbers, and then the two tests.
pub two_more : {A : Type 0} (f3 f4 f5 a b : Bool) (next : Answer A)
    → refuse_if f3 3 (refuse_if f4 4 (refuse_if (f5 || a || b) 5 next))
    ≡ and_then {B = Unit} (refuse_if f3 3 (refuse_if f4 4 (refuse_if f5 5 (given tt)))) (refuse_if (a || b) 5 next)
two_more true f4 f5 a b next = refl
two_more false true f5 a b next = refl
two_more false false true a b next = refl
two_more false false false a b next = refl

-- Numbers 1 to 5 of such a file.
module _ (file : List ℕ) (s : Shape) (p : Parts file s) where
  pub by_names : fails2 (fields_of file) ≡ true → file_answer file ≡ refused 2
  unfolding file_answer
  by_names e = rw (p.passes, e) refl

  module _ (e : fails2 (fields_of file) ≡ false) where
    T : List ℕ
    T = node_table (fields_of file)

    R : List ℕ
    R = rule_list (fields_of file)

    -- Behind the spellings the table's numbers, and then the start's two tests, from its value.
    pub by_tests : {t : Answer Unit} {v : List ℕ} → t ≡ table_answer (node_words file s.nodes) (rule_nodes file s.rules) → v ≡ value_at file s.start
        → file_answer file
        ≡ and_then t (refuse_if (not (ltb (two_bytes (get_or v 0 0) (get_or v 1 0)) s.nodes.count)
        || not (ltb (get_or v 2 0) relation_count)) 5 (given (contents (fields_of file))))
    unfolding file_answer fails5_by_file table_answer T R
    by_tests {v = v} t q =
        rw (p.passes, e)
        (two_more (fails3 T R) (fails4 T R) (fails5 T R) (not (ltb (start_node (fields_of file)) (node_count T)))
        (not (ltb (start_mode (fields_of file)) relation_count)) (given (contents (fields_of file)))
        ∙ ap₂ and_then (ap₂ table_answer (nodes_are file s p) (rules_are file s p) ∙ sym t)
        (ap₂ (λ (w : List ℕ) (n : ℕ).
        refuse_if (not (ltb (two_bytes (get_or w 0 0) (get_or w 1 0)) n) || not (ltb (get_or w 2 0) relation_count)) 5 (given (contents (fields_of file))))
        (start_is file s p ∙ sym q) (node_count_lem file s p)))

    pub by_table : (d : Refusal) → turned_down d ≡ table_answer (node_words file s.nodes) (rule_nodes file s.rules) → file_answer file ≡ turned_down d
    by_table d t = by_tests t refl ∙ turned_first Unit d _
