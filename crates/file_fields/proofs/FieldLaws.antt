-- The fields of a byte list without the bound on their number, and by offset.
use Prim.Native.Nat.{ℕ, zero, suc, ◌+◌, ◌≤◌, ◌<◌, min}
use mathlib.Core.Path.{◌≡◌, refl, ap, ◌∙◌}
use mathlib.Core.Bool.{cond}
use mathlib.Core.List.{List, [], ◌∷◌}
use mathlib.Core.Option.{Option, some, none}
use mathlib.Core.Logic.{⊎_elim}
use native.Mathlib.Omega.{arith}
use native.Mathlib.Numerals.{add-one}
use borrow.Author.Tests.{le-leb, lt-leb}
use lib.ListN.{length, get_or, take, drop, length-drop, drop_of_length-le}
use lib.Seq.{drop-cons, drop-drop}
use lib.Dec.{leb}
use Rattle.file_fields.specs.Fields.{Field, two_bytes, before, first_field, fields_up_to, fields}
use Rattle.file_fields.specs.Offsets.{length_at, value_at, next_at, field_at}
use Rattle.table.proofs.Orders.{le_or_lt}

-- The first field asks the rest only about a shorter list.
first_same :
    (bytes : List ℕ) (f g : List ℕ → Option (List Field))
    → ((rest : List ℕ) → length rest < length bytes → f rest ≡ g rest)
    → first_field bytes f ≡ first_field bytes g
unfolding first_field
first_same [] f g h = refl
first_same (t ∷ []) f g h = refl
first_same (t ∷ high ∷ []) f g h = refl
first_same (t ∷ high ∷ low ∷ bytes) f g h =
    let n = two_bytes high low in
    ap (λ (o : Option (List Field)). cond (leb n (length bytes)) (before (record { tag = t; value = take n bytes }) o) none)
    (h (drop n bytes) (rw length-drop (omega arith)))

-- Any bound that is large enough gives the same fields.
bound_same : (n m : ℕ) (bytes : List ℕ) → length bytes ≤ n → length bytes ≤ m → fields_up_to n bytes ≡ fields_up_to m bytes
unfolding fields_up_to
bound_same zero zero bytes a b = refl
bound_same zero (suc m) [] a b = refl
bound_same zero (suc m) (t ∷ bytes) a b = absurd (omega arith)
bound_same (suc n) zero [] a b = refl
bound_same (suc n) zero (t ∷ bytes) a b = absurd (omega arith)
bound_same (suc n) (suc m) [] a b = refl
bound_same (suc n) (suc m) (t ∷ bytes) a b =
    first_same (t ∷ bytes) (fields_up_to n) (fields_up_to m) (λ rest h. bound_same n m rest (omega arith) (omega arith))

-- No bytes are no fields.
pub fields_none : fields [] ≡ some []
unfolding fields fields_up_to
fields_none = refl

-- Other bytes are a first field, and then the fields of the rest.
pub fields_first : (t : ℕ) (bytes : List ℕ) → fields (t ∷ bytes) ≡ first_field (t ∷ bytes) fields
unfolding fields fields_up_to
fields_first t bytes =
    first_same (t ∷ bytes) (fields_up_to (length bytes)) fields
    (λ rest h. bound_same (length bytes) (length rest) rest (omega arith) (omega arith))

-- The bytes from an offset on, where one, two or three of them are left.
pub from_one : (file : List ℕ) (at : ℕ) → at < length file → drop at file ≡ get_or file at 0 ∷ drop (at + 1) file
from_one file at h = rw (add-one, drop-cons file at 0) refl

from_two : (file : List ℕ) (at : ℕ) → at + 1 < length file → drop at file ≡ get_or file at 0 ∷ get_or file (at + 1) 0 ∷ drop (at + 2) file
from_two file at h =
    let e : at + 1 + 1 ≡ at + 2 = omega arith in
    from_one file at (omega arith) ∙ ap (λ (l : List ℕ). get_or file at 0 ∷ l) (from_one file (at + 1) h ∙ rw e refl)

from_three : (file : List ℕ) (at : ℕ) → at + 2 < length file → drop at file ≡ get_or file at 0 ∷ get_or file (at + 1) 0 ∷ get_or file (at + 2) 0 ∷ drop (at + 3) file
from_three file at h =
    let e : at + 2 + 1 ≡ at + 3 = omega arith in
    from_two file at (omega arith) ∙ ap (λ (l : List ℕ). get_or file at 0 ∷ get_or file (at + 1) 0 ∷ l) (from_one file (at + 2) h ∙ rw e refl)

module _ (file : List ℕ) (at : ℕ) where
  -- Fewer than three bytes.
  cut_head : at < length file → length file < at + 3 → fields (drop at file) ≡ none
  unfolding first_field
  cut_head h k =
      ⊎_elim
      (λ a.
      ap fields (from_one file at h ∙ ap (λ (l : List ℕ). get_or file at 0 ∷ l) (drop_of_length-le file a))
      ∙ fields_first (get_or file at 0) [])
      (λ a.
      let b : length file ≤ at + 2 = omega arith in ap fields
      (from_two file at a
      ∙ ap (λ (l : List ℕ). get_or file at 0 ∷ get_or file (at + 1) 0 ∷ l) (drop_of_length-le file b))
      ∙ fields_first (get_or file at 0) (get_or file (at + 1) 0 ∷ [])) (le_or_lt (length file) (at + 1))

  -- Three bytes or more: the head, and then the test on what is left.
  whole_head :
      at + 2 < length file
      → fields (drop at file)
      ≡ cond (leb (length_at file at) (length (drop (at + 3) file)))
      (before (field_at file at) (fields (drop (length_at file at) (drop (at + 3) file)))) none
  unfolding first_field value_at
  whole_head h = ap fields (from_three file at h) ∙ fields_first (get_or file at 0) (get_or file (at + 1) 0 ∷ get_or file (at + 2) 0 ∷ drop (at + 3) file)

  -- A field that is whole, and those behind it.
  pub fields_whole : at + 3 + length_at file at ≤ length file → fields (drop at file) ≡ before (field_at file at) (fields (drop (next_at file at) file))
  unfolding next_at
  fields_whole h =
      let n = length_at file at in
      let e : min (at + 3 + n) (length file) ≡ at + 3 + n = omega arith in
      whole_head (omega arith)
      ∙ rw (le-leb n (length (drop (at + 3) file)) (rw length-drop (omega arith)), e, drop-drop n (at + 3) file) refl

  -- A field that is cut short.
  pub fields_cut : at < length file → length file < at + 3 + length_at file at → fields (drop at file) ≡ none
  fields_cut h k =
      ⊎_elim
      (λ (a : at + 3 ≤ length file). whole_head (omega arith) ∙ rw (lt-leb (length_at file at) (length (drop (at + 3) file)) (rw length-drop (omega arith))) refl)
      (λ a. cut_head h a)
      (le_or_lt (at + 3) (length file))
