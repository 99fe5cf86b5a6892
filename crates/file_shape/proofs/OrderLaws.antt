-- The order of tags, walked by offset: a field more of a tag, a field that ends a tag's run, and the last field.
use Prim.Native.Nat.{ℕ, ◌+◌, ◌≤◌, ◌<◌}
use mathlib.Core.Path.{◌≡◌, refl, sym, ap, ◌∙◌}
use mathlib.Core.Bool.{Bool, true, false, ◌&&◌, and-true, and-false}
use mathlib.Core.List.{List, [], ◌∷◌}
use mathlib.Core.Option.{Option, some, none}
use mathlib.Core.Logic.{◌⊎◌, inl, inr, ⊎_elim}
use native.Mathlib.Nat.{le_of_eq}
use native.Mathlib.Omega.{arith}
use native.Mathlib.Decide.{ℕ_discrete}
use borrow.Author.Tests.{le-leb, lt-leb, eq-eqb, ne_eqb, leb-true, eqb-true}
use lib.ListN.{length, get_or, drop, length-drop, drop_of_length-le}
use lib.Seq.{length-take-le}
use lib.Dec.{leb, eqb}
use Rattle.table.proofs.Every.{and_left, and_right}
use Rattle.file_fields.specs.Fields.{Field, before, fields, later_tags, right_length}
use Rattle.file_shape.specs.Contents.{right_value, right_values}
use Rattle.file_fields.specs.Offsets.{length_at, value_at, next_at, field_at, right_at}
use Rattle.table.proofs.Orders.{le_or_lt}
use Rattle.file_fields.proofs.FieldLaws.{fields_none, fields_whole, fields_cut}

-- What number 1 asks of the fields behind tag 1, no tag below a number.
unfoldable pub good : ℕ → Option (List Field) → Bool
good least none = false
good least (some fs) = later_tags least fs && right_values fs

pub same_or_not : (a b : ℕ) → (a ≡ b) ⊎ (a ≡ b → ⊥)
same_or_not a b = by_answer (ℕ_discrete a b)
  where
    by_answer : Dec (a ≡ b) → (a ≡ b) ⊎ (a ≡ b → ⊥)
    by_answer (yes e) = inl e
    by_answer (no e) = inr e

all_true : {a b x : Bool} (c y : Bool) → a ≡ true → b ≡ true → x ≡ true → (a && b && c && (x && y)) ≡ (c && y)
all_true c y p q r = rw (p, q, r) refl

pub one_false : (a y : Bool) {x : Bool} → x ≡ false → (a && (x && y)) ≡ false
one_false a y r = rw r (and-false a)

-- A right field of tag 2, 3 or 4 in front changes nothing.
good_before : (t : ℕ) → t ≤ 4 → (f : Field) → f.tag ≡ t → right_value f ≡ true → (o : Option (List Field)) → good t (before f o) ≡ good t o
unfolding good later_tags right_values
good_before t h f e v none = refl
good_before t h f e v (some []) = rw (e, ne_eqb t 5 (omega arith)) refl
good_before t h f e v (some (g ∷ fs)) =
    let p : leb t f.tag ≡ true = le-leb t f.tag (omega arith) in
    let q : leb f.tag 4 ≡ true = le-leb f.tag 4 (omega arith) in
    all_true (later_tags f.tag (g ∷ fs)) (right_values (g ∷ fs)) p q v
    ∙ ap (λ (n : ℕ). later_tags n (g ∷ fs) && right_values (g ∷ fs)) e

-- A field that is not a right one of a tag ends the tag's run.
good_stop : (t : ℕ) (f : Field) → (f.tag ≡ t → right_value f ≡ false) → (o : Option (List Field)) → good t (before f o) ≡ good (t + 1) (before f o)
unfolding good later_tags right_values
good_stop t f h none = refl
good_stop t f h (some []) = refl
good_stop t f h (some (g ∷ fs)) =
    ⊎_elim
    (λ e. one_false (later_tags t (f ∷ g ∷ fs)) (right_values (g ∷ fs)) (h e) ∙ sym (one_false (later_tags (t + 1) (f ∷ g ∷ fs)) (right_values (g ∷ fs)) (h e)))
    (λ k. ap (λ (b : Bool). b && leb f.tag 4 && later_tags f.tag (g ∷ fs) && (right_value f && right_values (g ∷ fs))) (above k))
    (same_or_not f.tag t)
  where
    above : (f.tag ≡ t → ⊥) → leb t f.tag ≡ leb (t + 1) f.tag
    above k =
        ⊎_elim
        (λ a. le-leb t f.tag (omega arith) ∙ sym (le-leb (t + 1) f.tag a))
        (λ a. lt-leb t f.tag (omega arith) ∙ sym (lt-leb (t + 1) f.tag a))
        (le_or_lt (t + 1) f.tag)

-- Behind tag 5 there is no field.
good_more : (f g : Field) (o : Option (List Field)) → good 5 (before f (before g o)) ≡ false
unfolding good later_tags
good_more f g none = refl
good_more f g (some fs) =
    ⊎_elim
    (λ a. rw (le-leb 5 f.tag a, lt-leb f.tag 4 (omega arith)) refl)
    (λ a. rw (lt-leb 5 f.tag a) refl)
    (le_or_lt 5 f.tag)

-- What a right field is: whole, of its tag, and of the tag's length.
module _ (file : List ℕ) (at t : ℕ) (h : right_at file at t ≡ true) where
  rest : (eqb (get_or file at 0) t && right_length t (length_at file at)) ≡ true
  unfolding right_at
  rest = and_right (leb (at + 3 + length_at file at) (length file)) (eqb (get_or file at 0) t && right_length t (length_at file at)) h

  pub whole : at + 3 + length_at file at ≤ length file
  unfolding right_at
  whole =
      leb-true (at + 3 + length_at file at) (length file)
      (and_left (leb (at + 3 + length_at file at) (length file))
      (eqb (get_or file at 0) t && right_length t (length_at file at)) h)

  pub its_tag : get_or file at 0 ≡ t
  its_tag = eqb-true (get_or file at 0) t (and_left (eqb (get_or file at 0) t) (right_length t (length_at file at)) rest)

  pub its_length : right_length t (length_at file at) ≡ true
  its_length = and_right (eqb (get_or file at 0) t) (right_length t (length_at file at)) rest

-- The value of a whole field has its length.
pub length_value : (file : List ℕ) (at : ℕ) → at + 3 + length_at file at ≤ length file → length (value_at file at) ≡ length_at file at
unfolding value_at
length_value file at h = length-take-le (length_at file at) (drop (at + 3) file) (rw length-drop (omega arith))

-- A whole field's value is right exactly if its length is, but for tag 1.
value_right :
    (file : List ℕ) (at t : ℕ)
    → at + 3 + length_at file at ≤ length file
    → get_or file at 0 ≡ t
    → (t ≡ 1 → ⊥)
    → right_value (field_at file at) ≡ right_length t (length_at file at)
unfolding right_value
value_right file at t h e k = rw (e, length_value file at h, ne_eqb t 1 k) (and-true _)

-- One more right field of tag 2, 3 or 4 at an offset.
pub good_step :
    (file : List ℕ) (at t : ℕ)
    → 2 ≤ t
    → t ≤ 4
    → right_at file at t ≡ true
    → good t (fields (drop at file)) ≡ good t (fields (drop (next_at file at) file))
good_step file at t a b h =
    ap (good t) (fields_whole file at (whole file at t h))
    ∙ good_before t b (field_at file at) (its_tag file at t h) (value_right file at t (whole file at t h) (its_tag file at t h) (omega arith) ∙ its_length file at t h) _

-- A whole field that is no right one of a tag, though it has the tag, has a wrong value.
wrong_value :
    (file : List ℕ) (at t : ℕ)
    → 2 ≤ t
    → at + 3 + length_at file at ≤ length file
    → right_at file at t ≡ false
    → get_or file at 0 ≡ t
    → right_value (field_at file at) ≡ false
unfolding right_at
wrong_value file at t a w h e = value_right file at t w e (omega arith) ∙ (rw (le-leb _ _ w, eq-eqb _ _ e) at h)

-- Where no whole field stands, nothing is good.
good_cut : (file : List ℕ) (at n : ℕ) → length file < at + 3 + length_at file at → good n (fields (drop at file)) ≡ false
unfolding good later_tags
good_cut file at n c =
    ⊎_elim
    (λ a. ap (λ (l : List ℕ). good n (fields l)) (drop_of_length-le file a) ∙ ap (good n) fields_none)
    (λ a. ap (good n) (fields_cut file at a c))
    (le_or_lt (length file) at)

-- Where a tag's run ends, the next tag's may begin.
pub good_next : (file : List ℕ) (at t : ℕ) → 2 ≤ t → right_at file at t ≡ false → good t (fields (drop at file)) ≡ good (t + 1) (fields (drop at file))
good_next file at t a h =
    ⊎_elim
    (λ w.
    let e = fields_whole file at w in
    ap (good t) e
    ∙ good_stop t (field_at file at) (wrong_value file at t a w h) (fields (drop (next_at file at) file))
    ∙ ap (good (t + 1)) (sym e))
    (λ c. good_cut file at t c ∙ sym (good_cut file at (t + 1) c))
    (le_or_lt (at + 3 + length_at file at) (length file))

-- The one field that may stand last.
module _ (file : List ℕ) (at : ℕ) where
  right_five : Bool
  right_five = right_at file at 5 && eqb (next_at file at) (length file)

  five_cut : length file < at + 3 + length_at file at → good 5 (fields (drop at file)) ≡ right_five
  unfolding right_five right_at
  five_cut c = good_cut file at 5 c ∙ rw (lt-leb (at + 3 + length_at file at) (length file) c) refl

  module _ (w : at + 3 + length_at file at ≤ length file) where
    -- It ends the file: its tag and its length decide.
    five_ends : next_at file at ≡ length file → good 5 (fields (drop at file)) ≡ right_five
    unfolding right_five right_at good later_tags right_values
    five_ends e =
        let none_left : drop (next_at file at) file ≡ [] = drop_of_length-le file (le_of_eq (sym e)) in
        ap (good 5)
        (fields_whole file at w
        ∙ ap (λ (l : List ℕ). before (field_at file at) (fields l)) none_left
        ∙ ap (before (field_at file at)) fields_none)
        ∙ ⊎_elim
        (λ p.
        rw (
          eq-eqb (get_or file at 0) 5 p,
          eq-eqb (next_at file at) (length file) e,
          le-leb (at + 3 + length_at file at) (length file) w,
        )
        (ap (λ (b : Bool). b && true) (value_right file at 5 w p (omega arith))))
        (λ p. rw (ne_eqb (get_or file at 0) 5 p, le-leb (at + 3 + length_at file at) (length file) w) refl)
        (same_or_not (get_or file at 0) 5)

    -- Something follows it.
    five_more : next_at file at < length file → good 5 (fields (drop at file)) ≡ right_five
    unfolding right_five good
    five_more h =
        let next = next_at file at in
        ap (good 5) (fields_whole file at w)
        ∙ ⊎_elim
        (λ v.
        ap (λ (o : Option (List Field)). good 5 (before (field_at file at) o)) (fields_whole file next v)
        ∙ good_more (field_at file at) (field_at file next) (fields (drop (next_at file next) file)))
        (λ c. ap (λ (o : Option (List Field)). good 5 (before (field_at file at) o)) (fields_cut file next h c))
        (le_or_lt (next + 3 + length_at file next) (length file))
        ∙ sym
        (ap (λ (b : Bool). right_at file at 5 && b) (ne_eqb next (length file) (omega arith))
        ∙ and-false (right_at file at 5))

-- The fields from an offset on are a last field alone.
pub good_last : (file : List ℕ) (at : ℕ) → good 5 (fields (drop at file)) ≡ (right_at file at 5 && eqb (next_at file at) (length file))
unfolding right_five next_at
good_last file at =
    ⊎_elim
    (λ w. ⊎_elim (λ a. five_ends file at w (omega arith)) (λ a. five_more file at w a) (le_or_lt (length file) (next_at file at)))
    (five_cut file at)
    (le_or_lt (at + 3 + length_at file at) (length file))
