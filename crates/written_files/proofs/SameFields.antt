-- Fields made anew of what they stand for are the same fields, where they are in order, their values are right and are bytes.
use Prim.Native.Nat.{ℕ, zero, suc, ◌+◌, ◌*◌, ◌≤◌, ◌<◌}
use mathlib.Core.Path.{◌≡◌, refl, sym, ap, ap₂, subst, ◌∙◌}
use mathlib.Core.Bool.{true, not, ◌||◌}
use mathlib.Core.List.{List, [], ◌∷◌, ◌++◌, map}
use native.Mathlib.Omega.{arith}
use borrow.Author.Tests.{eq-eqb, eqb-true, leb-true}
use lib.ListN.{length, get_or, drop, length-map, get_or-map, get_or-append}
use lib.Seq.{get_or-append-add}
use lib.Dec.{eqb}
use Rattle.table.specs.Form.{node_count}
use Rattle.table.specs.Words.{each_words, tabulate}
use Rattle.table.proofs.Every.{and_left, and_right}
use Rattle.table.proofs.Words.{length_words}
use Rattle.file_fields.specs.Fields.{Field, two_bytes, in_order, right_length}
use Rattle.file_tables.specs.Tables.{rule_node, four_words, words_of}
use Rattle.file_shape.specs.Contents.{right_value, keywords, rule_list, rule_names, node_table, start_value, start_node, start_mode}
use Rattle.grammar_writer.specs.FieldBytes.{field, format_field, rule_field, node_field, start_field}
use Rattle.grammar_writer.specs.Written.{keyword_fields, rule_fields, node_fields, written_fields}
use Rattle.written_files.proofs.FieldsBack.{number_two, Bytes}
use Rattle.written_files.proofs.Tabulated.{tabulate_list, tabulate_each, Each, each_at, each_front, each_back}
use Rattle.written_files.proofs.Tags.{AllOf, Runs, runs_of, tagged_two, tagged_three, tagged_four, tagged_five}

-- What is asked of a field: a right value, of bytes.
abbrev pub Sound : Field → Type 0
Sound f = (right_value f ≡ true) × Bytes f.value

-- A field by its tag and its value.
module _ (f : Field) where
  abbrev v : List ℕ
  v = f.value

  same_field : (t : ℕ) → f.tag ≡ t → {w : List ℕ} → w ≡ v → field t w ≡ f
  same_field t e p = λ i. record { tag = sym e i; value = p i }

  length_right : (t : ℕ) → f.tag ≡ t → right_value f ≡ true → right_length t (length v) ≡ true
  unfolding right_value
  length_right t e r = ap (λ (n : ℕ). right_length n (length v)) (sym e) ∙ and_left (right_length f.tag (length v)) (not (eqb f.tag 1) || eqb (get_or v 0 0) 1) r

  format_same : f.tag ≡ 1 → right_value f ≡ true → format_field ≡ f
  unfolding right_value right_length tabulate
  format_same e r =
      let one = rw (eq-eqb f.tag 1 e) at (and_right (right_length f.tag (length v)) (not (eqb f.tag 1) || eqb (get_or v 0 0) 1) r) in
      same_field 1 e
      (ap (λ (n : ℕ). n ∷ []) (sym (eqb-true (get_or v 0 0) 1 one))
      ∙ tabulate_list v 1 0 (eqb-true (length v) 1 (length_right 1 e r)))

  module _ (s : Sound f) where
    rule_same : f.tag ≡ 3 → rule_field (rule_node f) (drop 2 v) ≡ f
    unfolding right_length
    rule_same e =
        same_field 3 e
        (ap (λ (l : List ℕ). l ++ drop 2 v) (number_two (get_or v 0 0) (get_or v 1 0) (s.1 1))
        ∙ front v (leb-true 2 (length v) (length_right 3 e s.0)))
      where
        front : (w : List ℕ) → 2 ≤ length w → get_or w 0 0 ∷ get_or w 1 0 ∷ drop 2 w ≡ w
        front [] h = absurd (omega arith)
        front (a ∷ []) h = absurd (omega arith)
        front (a ∷ b ∷ w) h = refl

    node_same : f.tag ≡ 4 → node_field (get_or v 0 0) (two_bytes (get_or v 1 0) (get_or v 2 0)) (two_bytes (get_or v 3 0) (get_or v 4 0)) (get_or v 5 0) ≡ f
    unfolding right_length tabulate
    node_same e =
        same_field 4 e
        (ap₂ (λ (l m : List ℕ). get_or v 0 0 ∷ (l ++ m ++ (get_or v 5 0 ∷ [])))
        (number_two (get_or v 1 0) (get_or v 2 0) (s.1 2)) (number_two (get_or v 3 0) (get_or v 4 0) (s.1 4))
        ∙ tabulate_list v 6 0 (eqb-true (length v) 6 (length_right 4 e s.0)))

    start_same : f.tag ≡ 5 → start_field (two_bytes (get_or v 0 0) (get_or v 1 0)) (get_or v 2 0) ≡ f
    unfolding right_length tabulate
    start_same e =
        same_field 5 e
        (ap (λ (l : List ℕ). l ++ (get_or v 2 0 ∷ [])) (number_two (get_or v 0 0) (get_or v 1 0) (s.1 1))
        ∙ tabulate_list v 3 0 (eqb-true (length v) 3 (length_right 5 e s.0)))

-- A field that is not there has no bytes.
abbrev nothing : Field
nothing = field 0 []

-- Word j of node n.
word_at : (l : List Field) (n j at : ℕ) → at ≡ n * 4 + j → n < length l → j < 4 → get_or (words_of l) at 0 ≡ get_or (four_words (get_or l n nothing)) j 0
unfolding each_words
word_at [] n j at e h k = absurd (omega arith)
word_at (f ∷ l) zero j at e h k =
    let e' : at ≡ j = omega arith in
    ap (λ (i : ℕ). get_or (words_of (f ∷ l)) i 0) e' ∙ get_or-append (four_words f) (words_of l) 0 j k
word_at (f ∷ l) (suc n) j at e h k =
    let e' : at ≡ 4 + (n * 4 + j) = omega arith in
    ap (λ (i : ℕ). get_or (words_of (f ∷ l)) i 0) e'
    ∙ get_or-append-add (four_words f) (words_of l) (n * 4 + j) 0
    ∙ word_at l n j (n * 4 + j) refl (omega arith) k

-- The fields of a tag, made anew.
module _ (l : List Field) where
  keywords_same : AllOf 2 l → keyword_fields (map (λ f. f.value) l) ≡ l
  keywords_same a =
      tabulate_each l (length (map (λ f. f.value) l)) _ nothing (sym (length-map l (λ f. f.value)))
      (λ i h.
      let f = get_or l i nothing in
      same_field f 2 (each_at (λ f. f.tag ≡ 2) l a i nothing h) (get_or-map (λ f. f.value) l i nothing))

  module _ (s : Each Sound l) where
    rules_same : AllOf 3 l → rule_fields (map rule_node l) (map (λ f. drop 2 f.value) l) ≡ l
    rules_same a =
        tabulate_each l (length (map rule_node l)) _ nothing (sym (length-map l rule_node))
        (λ i h.
        ap₂ rule_field (get_or-map rule_node l i nothing) (get_or-map (λ f. drop 2 f.value) l i nothing)
        ∙ rule_same (get_or l i nothing) (each_at Sound l s i nothing h) (each_at (λ f. f.tag ≡ 3) l a i nothing h))

    nodes_same : AllOf 4 l → node_fields (words_of l) ≡ l
    nodes_same a =
        tabulate_each l (node_count (words_of l)) _ nothing (omega (arith, length_words four_words (λ f. refl) l))
        (λ i h.
        rw (
          word_at l i 0 (i * 4) (omega arith) h (omega arith),
          word_at l i 1 (i * 4 + 1) refl h (omega arith),
          word_at l i 2 (i * 4 + 2) refl h (omega arith),
          word_at l i 3 (i * 4 + 3) refl h (omega arith),
        )
        (node_same (get_or l i nothing) (each_at Sound l s i nothing h) (each_at (λ f. f.tag ≡ 4) l a i nothing h)))

module _ (fs : List Field) (order : in_order fs ≡ true) (sound : Each Sound fs) where
  r : Runs fs
  r = runs_of fs order

  all : Each Sound (r.one ∷ (r.twos ++ r.threes ++ r.fours ++ (r.five ∷ [])))
  all = subst (Each Sound) (sym r.split) sound

  middle : Each Sound (r.twos ++ r.threes ++ r.fours)
  middle = each_front Sound (r.twos ++ r.threes ++ r.fours) (r.five ∷ []) all.1

  keywords_anew : keyword_fields (keywords fs) ≡ r.twos
  unfolding keywords
  keywords_anew = ap (λ (l : List Field). keyword_fields (map (λ f. f.value) l)) (tagged_two fs r) ∙ keywords_same r.twos r.t2

  rules_anew : rule_fields (rule_list fs) (rule_names fs) ≡ r.threes
  unfolding rule_list rule_names
  rules_anew =
      ap (λ (l : List Field). rule_fields (map rule_node l) (map (λ f. drop 2 f.value) l)) (tagged_three fs r)
      ∙ rules_same r.threes (each_back Sound r.twos r.threes (each_front Sound (r.twos ++ r.threes) r.fours middle)) r.t3

  nodes_anew : node_fields (node_table fs) ≡ r.fours
  unfolding node_table
  nodes_anew =
      ap (λ (l : List Field). node_fields (words_of l)) (tagged_four fs r)
      ∙ nodes_same r.fours (each_back Sound (r.twos ++ r.threes) r.fours middle) r.t4

  start_anew : start_field (start_node fs) (start_mode fs) ≡ r.five
  unfolding start_value
  start_anew =
      ap (λ (l : List Field). let v = get_or (map (λ f. f.value) l) 0 [] in start_field (two_bytes (get_or v 0 0) (get_or v 1 0)) (get_or v 2 0)) (tagged_five fs r)
      ∙ start_same r.five (each_back Sound (r.twos ++ r.threes ++ r.fours) (r.five ∷ []) all.1).0 r.t5

  -- The fields made anew are the fields.
  pub same_fields : written_fields (keywords fs) (rule_names fs) (node_table fs) (rule_list fs) (start_node fs) (start_mode fs) ≡ fs
  same_fields =
      (λ i. format_same r.one r.t1 all.0.0 i ∷ (keywords_anew i ++ rules_anew i ++ nodes_anew i ++ (start_anew i ∷ [])))
      ∙ r.split
