-- Where the names of rules stand in a file that passes 1 to 5.
use Prim.Native.Nat.{ℕ, suc, ◌+◌, ◌≤◌, ◌<◌}
use mathlib.Core.Path.{◌≡◌, refl, sym, ap, ap₂, ◌∙◌}
use mathlib.Core.Bool.{Bool, true, false, not, ◌||◌, true≢false}
use mathlib.Core.List.{List, [], ◌∷◌, ◌++◌, append_assoc}
use mathlib.Core.Option
use mathlib.Core.Option.{Option, some, none}
use mathlib.Core.Logic.{⊎_elim}
use native.Mathlib.Nat.{le_trans, le_of_eq}
use native.Mathlib.Omega.{arith}
use borrow.Author.Tests.{not-false, leb-true, ltb-false}
use lib.ListN.{length, get_or, take, drop, length-append, length-map, length-drop, drop_of_length-le, take-append-drop, get_or-map}
use lib.Seq.{split_at, take-append_seam, drop-append-le, drop-drop, length-take-le}
use lib.Dec.{ltb}
use Rattle.table.specs.Answer.{Answer, given, refuse_if}
use Rattle.table.proofs.Every.{both_false}
use Rattle.table.proofs.Orders.{le_or_lt}
use Rattle.file_fields.specs.Fields.{Field, fields, in_order, tagged, right_length}
use Rattle.file_fields.specs.Offsets.{length_at, value_at, offset_of}
use Rattle.grammar_file.specs.File.{Contents, most_bytes, most_keywords, right_values, keywords, rule_node, rule_list, rule_names}
use Rattle.grammar_file.specs.File.{fields_of, unreadable, fails1, file_answer}
use Rattle.shown_text.specs.Shown.{widths, name_offset}
use Rattle.shown_text.proofs.FieldPlaces.{Behind, behind, value_here, ends_within}
use Rattle.shown_text.proofs.TagLaws.{its_tag, in_order_lem, right_length_lem, right_among, first_width}

-- What number 1 says of the fields that it passes.
pub record Readable (file : List ℕ) : Type 0 where
  pub parsed : fields file ≡ some (fields_of file)
  pub ordered : in_order (fields_of file) ≡ true
  pub right : right_values (fields_of file) ≡ true
  pub few : length (keywords (fields_of file)) ≤ most_keywords

passes_first : {A : Type 0} (fails : Bool) (n : ℕ) (next : Answer A) (x : A) → given x ≡ refuse_if fails n next → fails ≡ false
passes_first true n next x e = absurd (let z : ◌≡◌ {A = ℕ} 0 1 = cc in omega arith)
passes_first false n next x e = refl

read_fields : (o : Option (List Field)) → unreadable o ≡ false
    → (o ≡ some (Option.get_or o [])) × (in_order (Option.get_or o []) ≡ true) × (right_values (Option.get_or o []) ≡ true) × (length (keywords (Option.get_or o [])) ≤ most_keywords)
unfolding unreadable
read_fields none e = absurd (true≢false e)
read_fields (some fs) e =
    let a = both_false (not (in_order fs) || not (right_values fs)) (ltb most_keywords (length (keywords fs))) e in
    let b = both_false (not (in_order fs)) (not (right_values fs)) a.0 in
    (refl, not-false (in_order fs) b.0, not-false (right_values fs) b.1, ltb-false most_keywords (length (keywords fs)) a.1)

pub readable : (file : List ℕ) (x : Contents) → given x ≡ file_answer file → Readable file
unfolding file_answer fails1
readable file x e =
    let a = both_false (ltb most_bytes (length file)) (unreadable (fields file)) (passes_first _ _ _ _ e) in
    let b = read_fields (fields file) a.1 in
    record { parsed = b.0; ordered = b.1; right = b.2; few = b.3 }

-- The widths of two lists of fields, one behind the other.
widths_append : (fs gs : List Field) → widths (fs ++ gs) ≡ widths fs + widths gs
unfolding widths
widths_append [] gs = omega arith
widths_append (f ∷ fs) gs = rw (widths_append fs gs) (omega arith)

-- A part's bytes behind the first k, as a part of the whole.
later_part : (k n : ℕ) (l : List ℕ) → take (length (drop k (take n l))) (drop k l) ≡ drop k (take n l)
later_part k n l =
    ⊎_elim
    (λ (h : k ≤ length (take n l)).
    ap (take (length (drop k (take n l)))) (ap (drop k) (sym (take-append-drop n l)) ∙ drop-append-le k (take n l) (drop n l) h)
    ∙ take-append_seam (drop k (take n l)) (drop n l))
    (λ (h : length (take n l) < k).
    let e : drop k (take n l) ≡ [] = drop_of_length-le (take n l) {i = k} (omega arith) in
    ap (λ (m : List ℕ). take (length m) (drop k l)) e ∙ sym e)
    (le_or_lt k (length (take n l)))

nothing : Field
nothing = record { tag = 0; value = [] }

-- Rule r of a file whose fields can be read.
module _ (file : List ℕ) (h : Readable file) (r : ℕ) (b : r < length (rule_list (fields_of file))) where
  T2 : List Field
  T2 = tagged 2 (fields_of file)

  T3 : List Field
  T3 = tagged 3 (fields_of file)

  rule : Field
  rule = get_or (tagged 3 (fields_of file)) r nothing

  post : List Field
  post = drop (suc r) (tagged 3 (fields_of file)) ++ (tagged 4 (fields_of file) ++ tagged 5 (fields_of file))

  there : r < length (tagged 3 (fields_of file))
  unfolding rule_list
  there = le_trans b (le_of_eq (length-map (tagged 3 (fields_of file)) rule_node))

  -- The fields behind tag 1: keywords, rules before it, the rule, and others.
  split : fields_of file ≡ tagged 1 (fields_of file) ++ ((T2 ++ take r T3) ++ (rule ∷ post))
  unfolding T2 T3 rule post
  split =
      in_order_lem (fields_of file) h.ordered
      ∙ ap (λ (l : List Field). tagged 1 (fields_of file) ++ (T2 ++ (l ++ (tagged 4 (fields_of file) ++ tagged 5 (fields_of file))))) (split_at T3 r nothing there)
      ∙ simp append_assoc

  behind_first : fields (drop 4 file) ≡ some ((T2 ++ take r T3) ++ (rule ∷ post))
  behind_first =
      let width : 4 ≡ 0 + widths (tagged 1 (fields_of file)) = omega (arith, first_width (fields_of file) h.ordered h.right) in
      ap (λ (n : ℕ). fields (drop n file)) width
      ∙ (behind file (tagged 1 (fields_of file)) ((T2 ++ take r T3) ++ (rule ∷ post)) 0 (h.parsed ∙ ap some split)).rest

  stands : Behind file 4 (T2 ++ take r T3) (rule ∷ post)
  stands = behind file (T2 ++ take r T3) (rule ∷ post) 4 behind_first

  here : ℕ
  here = 4 + widths (T2 ++ take r T3)

  name_offset_lem : name_offset (fields_of file) r ≡ here + 5
  unfolding name_offset here T2 T3
  name_offset_lem =
      rw (first_width (fields_of file) h.ordered h.right, widths_append T2 (take r T3)) (omega arith)

  value : value_at file here ≡ rule.value
  unfolding here
  value = value_here file (4 + widths (T2 ++ take r T3)) rule post stands.rest

  within : here + (3 + length rule.value) ≤ length file
  unfolding here
  within = ends_within file (4 + widths (T2 ++ take r T3)) rule post stands.rest

  -- A rule's value has at least its node number.
  two : 2 ≤ length rule.value
  unfolding right_length rule
  two =
      leb-true 2 (length rule.value)
      (right_length_lem rule 3 (its_tag 3 (fields_of file) r nothing there)
      (right_among (tagged 1 (fields_of file) ++ (T2 ++ take r T3)) rule post
      (ap right_values (simp append_assoc) ∙ ap right_values (sym split) ∙ h.right)))

  name_is : get_or (rule_names (fields_of file)) r [] ≡ drop 2 rule.value
  unfolding rule_names rule nothing
  name_is = get_or-map (λ (f : Field). drop 2 f.value) (tagged 3 (fields_of file)) r nothing

  -- The name's bytes stand at its offset.
  pub name_bytes_lem : take (length (get_or (rule_names (fields_of file)) r [])) (drop (name_offset (fields_of file) r) file) ≡ get_or (rule_names (fields_of file)) r []
  unfolding value_at
  name_bytes_lem =
      let n : ℕ = length_at file here in
      let e : drop 2 (take n (drop (here + 3) file)) ≡ get_or (rule_names (fields_of file)) r [] = ap (drop 2) value ∙ sym name_is in
      let z : here + 3 + 2 ≡ name_offset (fields_of file) r = omega (arith, name_offset_lem) in
      ap₂ (λ (l : List ℕ) (m : List ℕ). take (length l) m) (sym e) (ap (λ (k : ℕ). drop k file) (sym z) ∙ sym (drop-drop 2 (here + 3) file))
      ∙ later_part 2 n (drop (here + 3) file)
      ∙ e

  pub name_within : name_offset (fields_of file) r + length (get_or (rule_names (fields_of file)) r []) ≤ length file
  name_within = rw (name_offset_lem, name_is, length-drop) (omega (arith, within, two))

  -- The same by the number of keywords: the rule's field, and its name.
  module _ (k : ℕ) (d : k ≡ length (keywords (fields_of file))) where
    field_offset : offset_of file 4 (k + r) ≡ here
    unfolding here T2 T3 keywords
    field_offset =
        let n : k + r ≡ length (T2 ++ take r T3) =
        rw (length-append T2 (take r T3), length-take-le r T3 (omega (arith, there)))
        (ap (λ (m : ℕ). m + r) (d ∙ length-map (tagged 2 (fields_of file)) (λ f. f.value))) in
        ap (offset_of file 4) n ∙ stands.offset

    pub name_from : offset_of file 4 (k + r) + 5 ≡ name_offset (fields_of file) r
    name_from = ap (λ (n : ℕ). n + 5) field_offset ∙ sym name_offset_lem

    pub length_from : length (drop 2 (value_at file (offset_of file 4 (k + r)))) ≡ length (get_or (rule_names (fields_of file)) r [])
    length_from = ap (λ (n : ℕ). length (drop 2 (value_at file n))) field_offset ∙ ap (λ (v : List ℕ). length (drop 2 v)) value ∙ ap length (sym name_is)
