-- What the fields of a written file stand for: the keywords, names, rules, nodes and start that they were made of. They are
-- in order, and every value is right.
use Prim.Native.Nat.{ℕ, zero, suc, ◌+◌, ◌*◌, ◌/◌, ◌%◌, ◌≤◌}
use mathlib.Core.Path.{◌≡◌, refl, sym, ap, ap₂, ◌∙◌}
use mathlib.Core.Bool.{true}
use mathlib.Core.List.{List, [], ◌∷◌, ◌++◌, map, append-nil}
use native.Mathlib.Omega.{arith}
use borrow.Author.Tests.{le-leb}
use lib.ListN.{length, get_or, take, drop}
use lib.Seq.{take-add, take_all}
use Rattle.table.specs.Form.{kind_of, a_of, b_of, relation_of, node_count, stands_for}
use Rattle.table.specs.Words.{each_words, tabulate}
use Rattle.table.proofs.Words.{words_append}
use Rattle.file_fields.specs.Fields.{Field, in_order, right_length}
use Rattle.file_fields.proofs.FieldLaws.{from_one}
use Rattle.file_tables.specs.Tables.{rule_node, four_words, words_of}
use Rattle.file_shape.specs.Contents.{right_value, right_values, keywords, rule_list, rule_names, node_table, start_value}
use Rattle.grammar_writer.specs.FieldBytes.{format_field, keyword_field, rule_field, node_field, start_field}
use Rattle.grammar_writer.specs.Written.{keyword_fields, rule_fields, node_fields, written_fields}
use Rattle.written_files.proofs.FieldsBack.{two_number}
use Rattle.written_files.proofs.Tabulated.{tabulate_same, tabulate_list, tabulate_map, Each, each_append, each_tabulate}
use Rattle.written_files.proofs.Tags.{values_right, Runs, in_order_lem, tagged_two, tagged_three, tagged_four, tagged_five}

-- Four words of a list, from a place on.
four_from : (l : List ℕ) (at : ℕ) → at + 4 ≤ length l → take 4 (drop at l) ≡ get_or l at 0 ∷ get_or l (at + 1) 0 ∷ get_or l (at + 2) 0 ∷ get_or l (at + 3) 0 ∷ []
four_from l at h =
    let p : at + 1 + 1 ≡ at + 2 = omega arith in
    let q : at + 2 + 1 ≡ at + 3 = omega arith in
    rw (from_one l at (omega arith), from_one l (at + 1) (omega arith), p, from_one l (at + 2) (omega arith), q, from_one l (at + 3) (omega arith)) refl

-- The field of a table's node, and its words.
module _ (nodes : List ℕ) where
  abbrev node_at : ℕ → Field
  node_at n = node_field (kind_of nodes n) (a_of nodes n) (b_of nodes n) (relation_of nodes n)

  four_back : (n : ℕ) → four_words (node_at n) ≡ kind_of nodes n ∷ a_of nodes n ∷ b_of nodes n ∷ relation_of nodes n ∷ []
  four_back n = ap₂ (λ (a b : ℕ). kind_of nodes n ∷ a ∷ b ∷ relation_of nodes n ∷ []) (two_number (a_of nodes n)) (two_number (b_of nodes n))

  -- The words of the first k nodes.
  words_back : (k : ℕ) → k * 4 ≤ length nodes → words_of (tabulate k node_at) ≡ take (k * 4) nodes
  unfolding tabulate each_words
  words_back zero h = refl
  words_back (suc k) h =
      let e : suc k * 4 ≡ k * 4 + 4 = omega arith in
      words_append four_words (tabulate k node_at) (node_at k ∷ [])
      ∙ ap₂ ◌++◌ (words_back k (omega arith)) (append-nil (four_words (node_at k)) ∙ four_back k ∙ sym (four_from nodes (k * 4) (omega arith)))
      ∙ sym (ap (λ (n : ℕ). take n nodes) e ∙ take-add (k * 4) 4 nodes)

module _ (words names : List (List ℕ)) (nodes rules : List ℕ) (node mode : ℕ) where
  abbrev fs : List Field
  fs = written_fields words names nodes rules node mode

  -- Something holds of each field.
  each_written : (P : Field → Type 0) → P format_field → ((word : List ℕ) → P (keyword_field word)) → ((n : ℕ) (name : List ℕ) → P (rule_field n name))
      → ((k a b r : ℕ) → P (node_field k a b r)) → P (start_field node mode) → Each P fs
  each_written P p1 p2 p3 p4 p5 = (
    p1,
    each_append P (keyword_fields words ++ rule_fields rules names ++ node_fields nodes) (start_field node mode ∷ [])
        (each_append P (keyword_fields words ++ rule_fields rules names) (node_fields nodes)
        (each_append P (keyword_fields words) (rule_fields rules names)
        (each_tabulate P (length words) _ (λ i h. p2 _))
        (each_tabulate P (length rules) _ (λ i h. p3 _ _)))
        (each_tabulate P (node_count nodes) _ (λ i h. p4 _ _ _ _))) (p5, tt),
  )

  -- The fields of each tag.
  abbrev runs : Runs fs
  runs =
      record {
        one = format_field;
        twos = keyword_fields words;
        threes = rule_fields rules names;
        fours = node_fields nodes;
        five = start_field node mode;
        t1 = refl;
        t2 = each_tabulate (λ f. f.tag ≡ 2) (length words) _ (λ i h. refl);
        t3 = each_tabulate (λ f. f.tag ≡ 3) (length rules) _ (λ i h. refl);
        t4 = each_tabulate (λ f. f.tag ≡ 4) (node_count nodes) _ (λ i h. refl);
        t5 = refl;
        split = refl;
      }

  -- The fields are in order.
  pub written_ordered : in_order fs ≡ true
  written_ordered = in_order_lem fs runs

  -- Every value is right.
  pub written_values : right_values fs ≡ true
  unfolding right_value right_length
  written_values =
      values_right fs
      (each_written (λ f. right_value f ≡ true) refl (λ word. refl) (λ n name. rw (le-leb 2 (suc (suc (length name))) (omega arith)) refl) (λ k a b r. refl) refl)

  -- The keywords.
  pub written_keywords : keywords fs ≡ words
  unfolding keywords
  written_keywords =
      ap (map (λ f. f.value)) (tagged_two fs runs)
      ∙ tabulate_map (λ f. f.value) (length words) (λ k. keyword_field (get_or words k []))
      ∙ tabulate_list words (length words) [] refl

  -- The rule list.
  pub written_rules : rule_list fs ≡ rules
  unfolding rule_list
  written_rules =
      ap (map rule_node) (tagged_three fs runs)
      ∙ tabulate_map rule_node (length rules) (λ r. rule_field (stands_for rules r) (get_or names r []))
      ∙ tabulate_same (length rules) _ (λ i. get_or rules i 0) (λ i h. two_number (stands_for rules i))
      ∙ tabulate_list rules (length rules) 0 refl

  -- The names, of as many rules as there are names.
  pub written_names : length names ≡ length rules → rule_names fs ≡ names
  unfolding rule_names
  written_names e =
      ap (map (λ f. drop 2 f.value)) (tagged_three fs runs)
      ∙ tabulate_map (λ f. drop 2 f.value) (length rules) (λ r. rule_field (stands_for rules r) (get_or names r []))
      ∙ tabulate_list names (length rules) [] e

  -- The table, of whole nodes.
  pub written_nodes : length nodes % 4 ≡ 0 → node_table fs ≡ nodes
  unfolding node_table
  written_nodes e =
      ap words_of (tagged_four fs runs)
      ∙ words_back nodes (node_count nodes) (omega arith)
      ∙ take_all (node_count nodes * 4) nodes (omega arith)

  -- The start.
  pub written_start : start_value fs ≡ node / 256 ∷ node % 256 ∷ mode ∷ []
  unfolding start_value
  written_start = ap (λ (l : List Field). get_or (map (λ f. f.value) l) 0 []) (tagged_five fs runs)
