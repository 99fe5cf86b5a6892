-- The fields of a file in order: those of tag 1, of tag 2, of tag 3, of tag 4 and of tag 5.
use Prim.Native.Nat.{ℕ, zero, suc, ◌≤◌, ◌<◌}
use mathlib.Core.Path.{◌≡◌, refl, ap, ◌∙◌}
use mathlib.Core.Bool.{Bool, true, false, cond, not, ◌&&◌, ◌||◌, false≢true}
use mathlib.Core.List.{List, [], ◌∷◌, ◌++◌}
use mathlib.Core.Logic.{⊎_elim}
use native.Mathlib.Omega.{arith}
use borrow.Author.Tests.{eq-eqb, ne_eqb, leb-true, eqb-true}
use lib.ListN.{length, get_or}
use lib.Dec.{leb, eqb}
use Rattle.table.proofs.Every.{and_left, and_right}
use Rattle.table.proofs.Orders.{le_or_lt}
use Rattle.file_fields.specs.Fields.{Field, later_tags, in_order, tagged, right_length}
use Rattle.grammar_file.specs.File.{right_value, right_values}
use Rattle.shown_text.specs.Shown.{widths}

module _ (u : ℕ) (f : Field) (fs : List Field) where
  tag_here : f.tag ≡ u → tagged u (f ∷ fs) ≡ f ∷ tagged u fs
  unfolding tagged
  tag_here e = rw (eq-eqb f.tag u e) refl

  tag_other : (f.tag ≡ u → ⊥) → tagged u (f ∷ fs) ≡ tagged u fs
  unfolding tagged
  tag_other k = rw (ne_eqb f.tag u k) refl

-- A field of a tag has it.
by_test : (u : ℕ) (f : Field) (gs : List Field) (d : Field) → ((i : ℕ) → i < length gs → (get_or gs i d).tag ≡ u) → (b : Bool) → eqb f.tag u ≡ b
    → (j : ℕ) → j < length (cond b (f ∷ gs) gs) → (get_or (cond b (f ∷ gs) gs) j d).tag ≡ u
by_test u f gs d k true e zero h = eqb-true f.tag u e
by_test u f gs d k true e (suc j) h = k j (omega arith)
by_test u f gs d k false e j h = k j h

pub its_tag : (u : ℕ) (fs : List Field) (i : ℕ) (d : Field) → i < length (tagged u fs) → (get_or (tagged u fs) i d).tag ≡ u
unfolding tagged
its_tag u [] i d h = absurd (omega arith)
its_tag u (f ∷ fs) i d h = by_test u f (tagged u fs) d (λ j k. its_tag u fs j d k) (eqb f.tag u) refl i h

-- The three tests on a field that is not the last.
module _ (least : ℕ) (f g : Field) (fs : List Field) (e : later_tags least (f ∷ g ∷ fs) ≡ true) where
  first_two : (leb least f.tag && leb f.tag 4) ≡ true
  unfolding later_tags
  first_two = and_left (leb least f.tag && leb f.tag 4) (later_tags f.tag (g ∷ fs)) e

  from_least : least ≤ f.tag
  from_least = leb-true least f.tag (and_left (leb least f.tag) (leb f.tag 4) first_two)

  to_four : f.tag ≤ 4
  to_four = leb-true f.tag 4 (and_right (leb least f.tag) (leb f.tag 4) first_two)

  later : later_tags f.tag (g ∷ fs) ≡ true
  unfolding later_tags
  later = and_right (leb least f.tag && leb f.tag 4) (later_tags f.tag (g ∷ fs)) e

last_tag : (least : ℕ) (f : Field) → later_tags least (f ∷ []) ≡ true → f.tag ≡ 5
unfolding later_tags
last_tag least f e = eqb-true f.tag 5 e

none_later : (least : ℕ) → later_tags least [] ≡ true → ⊥
unfolding later_tags
none_later least e = false≢true e

tagged_nil : (u : ℕ) → tagged u [] ≡ []
unfolding tagged
tagged_nil u = refl

alone : (f : Field) → f ∷ [] ≡ tagged 2 [] ++ (tagged 3 [] ++ (tagged 4 [] ++ f ∷ tagged 5 []))
unfolding tagged
alone f = refl

-- No tag below the least one.
none_below : (least u : ℕ) (fs : List Field) → later_tags least fs ≡ true → u < least → u < 5 → tagged u fs ≡ []
none_below least u [] e h k = absurd (none_later least e)
none_below least u (f ∷ []) e h k = tag_other u f [] (let t = last_tag least f e in λ d. omega arith) ∙ tagged_nil u
none_below least u (f ∷ g ∷ fs) e h k =
    let a = from_least least f g fs e in
    tag_other u f (g ∷ fs) (λ d. omega arith) ∙ none_below f.tag u (g ∷ fs) (later least f g fs e) (omega arith) k

-- A field of tag 2, 3 or 4 in front of fields whose tags are not below its own.
module _ (f : Field) (fs : List Field) {least : ℕ} (a : least ≤ f.tag) (b : f.tag ≤ 4) (h : 2 ≤ least) (e : later_tags f.tag fs ≡ true)
    (rest : fs ≡ tagged 2 fs ++ (tagged 3 fs ++ (tagged 4 fs ++ tagged 5 fs))) where
  of_two : f.tag ≡ 2 → f ∷ fs ≡ tagged 2 (f ∷ fs) ++ (tagged 3 (f ∷ fs) ++ (tagged 4 (f ∷ fs) ++ tagged 5 (f ∷ fs)))
  of_two t =
      rw (
        tag_here 2 f fs t,
        tag_other 3 f fs (λ d. omega arith),
        tag_other 4 f fs (λ d. omega arith),
        tag_other 5 f fs (λ d. omega arith),
      )
      (ap (λ (l : List Field). f ∷ l) rest)

  of_three : f.tag ≡ 3 → f ∷ fs ≡ tagged 2 (f ∷ fs) ++ (tagged 3 (f ∷ fs) ++ (tagged 4 (f ∷ fs) ++ tagged 5 (f ∷ fs)))
  of_three t =
      let two : tagged 2 fs ≡ [] = none_below f.tag 2 fs e (omega arith) (omega arith) in
      rw (
        tag_other 2 f fs (λ d. omega arith),
        tag_here 3 f fs t,
        tag_other 4 f fs (λ d. omega arith),
        tag_other 5 f fs (λ d. omega arith),
        two,
      )
      (ap (λ (l : List Field). f ∷ l) (rw two at rest))

  of_four : f.tag ≡ 4 → f ∷ fs ≡ tagged 2 (f ∷ fs) ++ (tagged 3 (f ∷ fs) ++ (tagged 4 (f ∷ fs) ++ tagged 5 (f ∷ fs)))
  of_four t =
      let two : tagged 2 fs ≡ [] = none_below f.tag 2 fs e (omega arith) (omega arith) in
      let three : tagged 3 fs ≡ [] = none_below f.tag 3 fs e (omega arith) (omega arith) in
      rw (
        tag_other 2 f fs (λ d. omega arith),
        tag_other 3 f fs (λ d. omega arith),
        tag_here 4 f fs t,
        tag_other 5 f fs (λ d. omega arith),
        two,
        three,
      )
      (ap (λ (l : List Field). f ∷ l) (rw (two, three) at rest))

  more_tags : f ∷ fs ≡ tagged 2 (f ∷ fs) ++ (tagged 3 (f ∷ fs) ++ (tagged 4 (f ∷ fs) ++ tagged 5 (f ∷ fs)))
  more_tags =
      ⊎_elim
      (λ k. of_two (omega arith))
      (λ k. ⊎_elim (λ l. of_three (omega arith)) (λ l. of_four (omega arith)) (le_or_lt f.tag 3))
      (le_or_lt f.tag 2)

-- The fields behind tag 1.
by_tags : (least : ℕ) (fs : List Field) → 2 ≤ least → later_tags least fs ≡ true → fs ≡ tagged 2 fs ++ (tagged 3 fs ++ (tagged 4 fs ++ tagged 5 fs))
by_tags least [] h e = absurd (none_later least e)
by_tags least (f ∷ []) h e =
    let t = last_tag least f e in
    rw (
      tag_other 2 f [] (λ d. omega arith),
      tag_other 3 f [] (λ d. omega arith),
      tag_other 4 f [] (λ d. omega arith),
      tag_here 5 f [] t,
    ) (alone f)
by_tags least (f ∷ g ∷ fs) h e =
    more_tags f (g ∷ fs) (from_least least f g fs e) (to_four least f g fs e) h (later least f g fs e)
    (by_tags f.tag (g ∷ fs) (let a = from_least least f g fs e in omega arith) (later least f g fs e))

-- What the order of tags and the values' lengths say of the first field.
module _ (f : Field) (fs : List Field) (e : in_order (f ∷ fs) ≡ true) where
  one : f.tag ≡ 1
  unfolding in_order
  one = eqb-true f.tag 1 (and_left (eqb f.tag 1) (later_tags 2 fs) e)

  others : later_tags 2 fs ≡ true
  unfolding in_order
  others = and_right (eqb f.tag 1) (later_tags 2 fs) e

  first_alone : tagged 1 (f ∷ fs) ≡ f ∷ []
  first_alone = tag_here 1 f fs one ∙ ap (λ (l : List Field). f ∷ l) (none_below 2 1 fs others (omega arith) (omega arith))

no_fields : in_order [] ≡ true → ⊥
unfolding in_order
no_fields e = false≢true e

-- The fields of a file that number 1 passes, tag by tag.
pub in_order_lem : (fs : List Field) → in_order fs ≡ true → fs ≡ tagged 1 fs ++ (tagged 2 fs ++ (tagged 3 fs ++ (tagged 4 fs ++ tagged 5 fs)))
in_order_lem [] e = absurd (no_fields e)
in_order_lem (f ∷ fs) e =
    let t = one f fs e in
    rw (
      first_alone f fs e,
      tag_other 2 f fs (λ d. omega arith),
      tag_other 3 f fs (λ d. omega arith),
      tag_other 4 f fs (λ d. omega arith),
      tag_other 5 f fs (λ d. omega arith),
    )
    (ap (λ (l : List Field). f ∷ l) (by_tags 2 fs (omega arith) (others f fs e)))

-- A right value has its tag's length.
pub right_length_lem : (f : Field) (t : ℕ) → f.tag ≡ t → right_value f ≡ true → right_length t (length f.value) ≡ true
unfolding right_value
right_length_lem f t e h =
    let a : right_length f.tag (length f.value) ≡ true =
    and_left (right_length f.tag (length f.value)) (not (eqb f.tag 1) || eqb (get_or f.value 0 0) 1) h in
    rw e at a

-- One of some right fields is right.
pub right_among : (pre : List Field) (f : Field) (post : List Field) → right_values (pre ++ (f ∷ post)) ≡ true → right_value f ≡ true
unfolding right_values
right_among [] f post h = and_left (right_value f) (right_values post) h
right_among (g ∷ pre) f post h = right_among pre f post (and_right (right_value g) (right_values (pre ++ (f ∷ post))) h)

-- Tag 1's field takes four bytes.
pub first_width : (fs : List Field) → in_order fs ≡ true → right_values fs ≡ true → widths (tagged 1 fs) ≡ 4
unfolding widths right_length
first_width [] e h = absurd (no_fields e)
first_width (f ∷ fs) e h =
    let n : length f.value ≡ 1 = eqb-true (length f.value) 1 (right_length_lem f 1 (one f fs e) (right_among [] f fs h)) in
    ap widths (first_alone f fs e) ∙ rw n refl
