-- The words of a table and its rules, written field by field.
use Prim.Native.Nat.{ℕ, ◌+◌, ◌*◌, ◌%◌, ◌<◌}
use mathlib.Core.Path.{◌≡◌, refl, sym, ap, ap₂, ◌∙◌}
use mathlib.Core.List.{List, [], ◌∷◌, ◌++◌, map, map-append}
use native.Mathlib.Omega.{arith}
use borrow.Author.Tests.{lt-leb, lt-ltb}
use mathlib.Core.Bool.{not, ◌&&◌, ◌||◌, and-false, or-true}
use lib.Dec.{leb, eqb}
use Rattle.table.specs.Words.{each_words}
use Rattle.table.proofs.Words.{words_append, length_words}
use Rattle.table.specs.Answer.{refused}
use Rattle.table.specs.Limits.{most_nodes, most_rules}
use Rattle.table.specs.Form.{node_count}
use Rattle.table.specs.Checks.{fails3, table_answer}
use lib.ListN.{length, drop, set, get_or, length-map}
use Rattle.file_tables.specs.Tables.{rule_node, four_words, words_of}
use Rattle.file_fields.specs.Fields.{two_bytes}
use Rattle.file_fields.specs.Offsets.{field_at, next_at, offset_of, fields_from}
use Rattle.file_fields.proofs.Lists.{write_next, four_more}
use Rattle.file_fields.proofs.Offsets.{length_from, from_next, offset_next}

module _ (file : List ℕ) (first : ℕ) where
  pub length_nodes : (k : ℕ) → length (words_of (fields_from file first k)) ≡ k * 4
  length_nodes k = length_words four_words (λ f. refl) (fields_from file first k) ∙ ap (λ (n : ℕ). n * 4) (length_from file first k)

  pub length_rules : (k : ℕ) → length (map rule_node (fields_from file first k)) ≡ k
  length_rules k = length-map (fields_from file first k) rule_node ∙ length_from file first k

  -- One rule more.
  pub rule_next : (k : ℕ) (old out : List ℕ) (v : ℕ) → out ≡ map rule_node (fields_from file first k) ++ drop k old → k < length old
      → v ≡ rule_node (field_at file (offset_of file first k)) → set out k v ≡ map rule_node (fields_from file first (k + 1)) ++ drop (k + 1) old
  rule_next k old out v e h p =
      ap (λ (l : List ℕ). set l k v) e
      ∙ write_next (map rule_node (fields_from file first k)) old k (k + 1) v 0 (length_rules k) h refl
      ∙ ap (λ (l : List ℕ). l ++ drop (k + 1) old)
      (ap (λ (w : ℕ). map rule_node (fields_from file first k) ++ (w ∷ [])) p
      ∙ sym (map-append rule_node (fields_from file first k) (field_at file (offset_of file first k) ∷ []))
      ∙ ap (map rule_node) (sym (from_next file first k)))

-- One node more.
pub node_next : (file : List ℕ) (first k : ℕ) (old out : List ℕ) (a b c d : ℕ) → out ≡ words_of (fields_from file first k) ++ drop (k * 4) old → k * 4 + 3 < length old
    → (a ∷ b ∷ c ∷ d ∷ []) ≡ four_words (field_at file (offset_of file first k))
    → set (set (set (set out (k * 4) a) (k * 4 + 1) b) (k * 4 + 2) c) (k * 4 + 3) d ≡ words_of (fields_from file first (k + 1)) ++ drop ((k + 1) * 4) old
unfolding each_words
node_next file first k old out a b c d e h p =
    let n : k * 4 + 4 ≡ (k + 1) * 4 = omega arith in
    ap (λ (l : List ℕ). set (set (set (set l (k * 4) a) (k * 4 + 1) b) (k * 4 + 2) c) (k * 4 + 3) d) e
    ∙ four_more (words_of (fields_from file first k)) old (k * 4) a b c d (length_nodes file first k) h
    ∙ ap₂ (λ (l : List ℕ) (m : ℕ). l ++ drop m old)
    (ap (λ (l : List ℕ). words_of (fields_from file first k) ++ l) p
    ∙ sym (words_append four_words (fields_from file first k) (field_at file (offset_of file first k) ∷ []))
    ∙ ap words_of (sym (from_next file first k))) n

-- Four words that were read from a value are those of the field with this value.
pub four_same :
    {v w : List ℕ} {a b c d : ℕ}
    → a ≡ get_or v 0 0
    → b ≡ two_bytes (get_or v 1 0) (get_or v 2 0)
    → c ≡ two_bytes (get_or v 3 0) (get_or v 4 0)
    → d ≡ get_or v 5 0
    → v ≡ w
    → (a ∷ b ∷ c ∷ d ∷ [])
    ≡ (get_or w 0 0 ∷ two_bytes (get_or w 1 0) (get_or w 2 0) ∷ two_bytes (get_or w 3 0) (get_or w 4 0) ∷ get_or w 5 0 ∷ [])
four_same p q r s e = rw (p, q, r, s, e) refl

-- The offset of the next field.
pub offset_stepped :
    (file : List ℕ) (first k : ℕ) {at next : ℕ}
    → next ≡ next_at file at
    → at ≡ offset_of file first k
    → next ≡ offset_of file first (k + 1)
offset_stepped file first k n e = n ∙ ap (next_at file) e ∙ sym (offset_next file first k)

-- A table of k node fields has k nodes.
module _ (file : List ℕ) (first k : ℕ) where
  pub count_nodes : node_count (words_of (fields_from file first k)) ≡ k
  count_nodes = omega (arith, length_nodes file first k)

-- More nodes or rules than the limits are number 3.
pub many_nodes : (nodes rules : List ℕ) → most_nodes < node_count nodes → table_answer nodes rules ≡ refused 3
unfolding table_answer fails3
many_nodes nodes rules h =
    rw (lt-leb (node_count nodes) most_nodes h, and-false (leb 1 (node_count nodes)), or-true (not (eqb (length nodes % 4) 0))) refl

pub many_rules : (nodes rules : List ℕ) → most_rules < length rules → table_answer nodes rules ≡ refused 3
unfolding table_answer fails3
many_rules nodes rules h =
    rw (lt-ltb most_rules (length rules) h, or-true (not (eqb (length nodes % 4) 0) || not (leb 1 (node_count nodes) && leb (node_count nodes) most_nodes))) refl
