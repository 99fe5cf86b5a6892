-- What a lending file, a table and a start that have passed give the writer: short spellings, few of them, small words.
use Prim.Native.Nat.{ℕ, ◌<◌, ◌≤◌}
use mathlib.Core.Path.{◌≡◌, refl, sym, ap, ◌∙◌}
use mathlib.Core.Bool.{true, false, not, ◌&&◌, ◌||◌}
use mathlib.Core.List.{List, []}
use native.Mathlib.Omega.{arith}
use borrow.Author.Tests.{ltb-true}
use lib.ListN.{length, get_or}
use lib.Dec.{ltb}
use Rattle.table.specs.Answer.{Answer, given, refuse_if, and_then}
use Rattle.table.specs.Refusals.{turned_down}
use Rattle.table.specs.declared.refusals.Refusal.{Refusal}
use Rattle.table.specs.Limits.{most_nodes, most_rules, relation_count}
use Rattle.table.specs.Form.{node_count}
use Rattle.table.specs.Every.{every}
use Rattle.table.specs.Checks.{fails3, fails4, fails5, is_relation, table_answer}
use Rattle.table.proofs.Every.{and_left, and_right, both_false}
use Rattle.table.proofs.AnswerLaws.{turned_first, if_given}
use Rattle.table.proofs.Inside.{unnot, kind_there, relation_there, counts_inside}
use Rattle.spellings.specs.Spellings.{single_alone, right_spellings}
use Rattle.file_fields.specs.Fields.{Field}
use Rattle.file_fields.specs.Offsets.{spellings_from}
use Rattle.file_shape.specs.Contents.{most_keywords, keywords, rule_names, fields_of, fails1, fails2, fails5_with, file_answer}
use Rattle.file_shape.specs.declared.Shape.{Shape}
use Rattle.file_shape.proofs.PartLaws.{two_more, keywords_are, names_are}
use Rattle.grammar_file.proofs.CountLaws.{keywords_stand}
use Rattle.grammar_writer.specs.InternalWriting.{ByteWords, started_answer, Lends}

-- A table, its rules and a start that pass 3, 4 and 5.
pub record Started (nodes rules : List ℕ) (node mode : ℕ) : Type 0 where
  pub three : fails3 nodes rules ≡ false
  pub four : fails4 nodes rules ≡ false
  pub five : fails5_with nodes rules node mode ≡ false

-- They pass where an answer behind the three checks is given.
pub table_passed :
    {A : Type 0} (nodes rules : List ℕ) (node mode : ℕ) (next : Answer A) (x : A)
    → refuse_if (fails3 nodes rules) 3 (refuse_if (fails4 nodes rules) 4 (refuse_if (fails5_with nodes rules node mode) 5 next)) ≡ given x
    → Started nodes rules node mode × (next ≡ given x)
table_passed nodes rules node mode next x e =
    let p = if_given (fails3 nodes rules) 3 _ e in
    let q = if_given (fails4 nodes rules) 4 _ p.1 in
    let r = if_given (fails5_with nodes rules node mode) 5 next q.1 in
    (record { three = p.0; four = q.0; five = r.0 }, r.1)

module _ (nodes rules : List ℕ) (node mode : ℕ) (s : Started nodes rules node mode) where
  starts : (fails5 nodes rules || not (ltb node (node_count nodes)) ≡ false) × (not (is_relation mode) ≡ false)
  starts = both_false (fails5 nodes rules || not (ltb node (node_count nodes))) (not (is_relation mode)) s.five

  -- The table passes without its start.
  pub table_right : table_answer nodes rules ≡ given tt
  unfolding table_answer
  table_right = rw (s.three, s.four, (both_false (fails5 nodes rules) (not (ltb node (node_count nodes))) starts.0).0) refl

  pub byte_words : ByteWords nodes
  byte_words n h = (omega (arith, kind_there nodes rules table_right n h), omega (arith, relation_there nodes rules table_right n h))

  pub byte_mode : mode < 256
  byte_mode =
      let small : mode < relation_count = ltb-true mode relation_count (unnot (is_relation mode) starts.1) in
      omega arith

-- The checks of a table, and then the start's.
module _ (nodes rules : List ℕ) (node mode : ℕ) where
  pub start_after :
      started_answer nodes rules node mode
      ≡ and_then (table_answer nodes rules) (refuse_if (not (ltb node (node_count nodes)) || not (is_relation mode)) 5 (given tt))
  unfolding started_answer table_answer
  start_after =
      two_more (fails3 nodes rules) (fails4 nodes rules) (fails5 nodes rules) (not (ltb node (node_count nodes))) (not (is_relation mode))
      (given tt)

  pub table_refuses : (e : Refusal) → turned_down e ≡ table_answer nodes rules → turned_down e ≡ started_answer nodes rules node mode
  table_refuses e h = sym (rw (start_after, ← h) (turned_first Unit e _))

-- Number 2 is about the keywords and about the names.
pub both_spelled : (fs : List Field) → fails2 fs ≡ false → (right_spellings (keywords fs) ≡ true) × (right_spellings (rule_names fs) ≡ true)
unfolding fails2
both_spelled fs e =
    let ks = keywords fs in
    let a = right_spellings ks in
    let b = every (length ks) (λ k. single_alone (get_or ks k [])) in
    let c = right_spellings (rule_names fs) in
    let t = unnot (a && b && c) e in
    (and_left a b (and_left (a && b) c t), and_right (a && b) c t)

-- A lending file whose shape is known.
module _ {lending nodes rules : List ℕ} {s : Shape} {node mode : ℕ} (h : Lends lending s nodes rules node mode) where
  pub lends_started : Started nodes rules node mode
  unfolding started_answer
  lends_started = (table_passed nodes rules node mode (given tt) tt h.started).0

  pub right_names : (right_spellings (keywords (fields_of lending)) ≡ true) × (right_spellings (rule_names (fields_of lending)) ≡ true)
  unfolding file_answer
  right_names = both_spelled (fields_of lending) (if_given (fails2 (fields_of lending)) 2 _ (if_given (fails1 lending) 1 _ h.lends).1).0

  pub keywords_right : right_spellings (spellings_from lending 4 s.keywords 0) ≡ true
  keywords_right = ap right_spellings (sym (keywords_are lending s h.parts)) ∙ right_names.0

  pub names_right : {count : ℕ} → count ≡ s.rules.count → right_spellings (spellings_from lending s.rules.at count 2) ≡ true
  names_right e =
      ap (λ (k : ℕ). right_spellings (spellings_from lending s.rules.at k 2)) e
      ∙ ap right_spellings (sym (names_are lending s h.parts))
      ∙ right_names.1

  pub few_keywords : s.keywords ≤ most_keywords
  few_keywords = (keywords_stand lending s h.parts).1

  pub few_nodes : (node_count nodes ≤ most_nodes) × (length rules ≤ most_rules)
  few_nodes = let inside = counts_inside nodes rules (table_right nodes rules node mode lends_started) in (inside.1, inside.2)
