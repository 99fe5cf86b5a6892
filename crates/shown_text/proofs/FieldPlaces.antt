-- Fields one behind the other: each stands behind the widths of those before it.
use Prim.Native.Nat.{ℕ, zero, suc, ◌+◌, ◌≤◌, ◌<◌}
use mathlib.Core.Path.{◌≡◌, refl, sym, ap, ◌∙◌}
use mathlib.Core.List.{List, [], ◌∷◌, ◌++◌}
use mathlib.Core.Option.{Option, some, none}
use mathlib.Core.Logic.{⊎_elim}
use native.Mathlib.Omega.{arith}
use lib.ListN.{length, drop, length-drop, drop_of_length-le}
use lib.Seq.{length-take-le}
use Rattle.table.proofs.Orders.{le_or_lt}
use Rattle.file_fields.specs.Fields.{Field, before, fields}
use Rattle.file_fields.specs.Offsets.{length_at, value_at, next_at, field_at, offset_of}
use Rattle.file_fields.proofs.FieldLaws.{fields_none, fields_whole, fields_cut}
use Rattle.shown_text.specs.Shown.{widths}

-- No field begins past the end of the file but the first.
pub offset_within : (file : List ℕ) (at k : ℕ) → offset_of file at k ≤ at + length file
unfolding offset_of next_at
offset_within file at zero = omega arith
offset_within file at (suc k) = omega arith

first_field_lem : (f g : Field) (post : List Field) (o : Option (List Field)) → before g o ≡ some (f ∷ post) → (g ≡ f) × (o ≡ some post)
first_field_lem f g post none e = absurd (let z : ◌≡◌ {A = ℕ} 0 1 = cc in omega arith)
first_field_lem f g post (some fs) e = let d : fs ≡ post = cc in (cc, ap some d)

-- The first field from an offset on.
module _ (file : List ℕ) (at : ℕ) (f : Field) (post : List Field) (e : fields (drop at file) ≡ some (f ∷ post)) where
  whole : at + 3 + length_at file at ≤ length file
  whole =
      ⊎_elim (λ h. h)
      (λ c.
      ⊎_elim
      (λ (a : length file ≤ at).
      let d : some [] ≡ some (f ∷ post) = sym fields_none ∙ ap fields (sym (drop_of_length-le file a)) ∙ e in
      absurd (let z : ◌≡◌ {A = ℕ} 0 1 = cc in omega arith))
      (λ (a : at < length file).
      let d : none ≡ some (f ∷ post) = sym (fields_cut file at a c) ∙ e in
      absurd (let z : ◌≡◌ {A = ℕ} 0 1 = cc in omega arith))
      (le_or_lt (length file) at))
      (le_or_lt (at + 3 + length_at file at) (length file))

  both : (field_at file at ≡ f) × (fields (drop (next_at file at) file) ≡ some post)
  both = first_field_lem f (field_at file at) post (fields (drop (next_at file at) file)) (sym (fields_whole file at whole) ∙ e)

  pub value_here : value_at file at ≡ f.value
  value_here = ap (λ (g : Field). g.value) both.0

  value_length : length_at file at ≡ length f.value
  unfolding value_at
  value_length = sym (length-take-le (length_at file at) (drop (at + 3) file) (rw length-drop (omega (arith, whole)))) ∙ ap length value_here

  pub ends_within : at + (3 + length f.value) ≤ length file
  ends_within = omega (arith, whole, value_length)

  pub next_here : next_at file at ≡ at + (3 + length f.value)
  unfolding next_at
  next_here = omega (arith, whole, value_length)

  pub rest_here : fields (drop (at + (3 + length f.value)) file) ≡ some post
  rest_here = ap (λ (n : ℕ). fields (drop n file)) (sym next_here) ∙ both.1

-- From the next field on there is one field fewer to go.
offset_first : (file : List ℕ) (at k : ℕ) → offset_of file at (suc k) ≡ offset_of file (next_at file at) k
unfolding offset_of
offset_first file at zero = refl
offset_first file at (suc k) = ap (next_at file) (offset_first file at k)

-- Behind some fields stand the others, and the widths say where.
pub record Behind (file : List ℕ) (at : ℕ) (pre post : List Field) : Type 0 where
  pub rest : fields (drop (at + widths pre) file) ≡ some post
  pub offset : offset_of file at (length pre) ≡ at + widths pre

pub behind : (file : List ℕ) (pre post : List Field) (at : ℕ) → fields (drop at file) ≡ some (pre ++ post) → Behind file at pre post
unfolding widths offset_of
behind file [] post at e =
    let z : at + 0 ≡ at = omega arith in
    record { rest = ap (λ (n : ℕ). fields (drop n file)) z ∙ e; offset = sym z }
behind file (f ∷ pre) post at e =
    let next = next_here file at f (pre ++ post) e in
    let b = behind file pre post (at + (3 + length f.value)) (rest_here file at f (pre ++ post) e) in
    let z : at + (3 + length f.value) + widths pre ≡ at + (3 + length f.value + widths pre) = omega arith in
    record {
      rest = ap (λ (n : ℕ). fields (drop n file)) (sym z) ∙ b.rest;
      offset = offset_first file at (length pre) ∙ ap (λ (n : ℕ). offset_of file n (length pre)) next ∙ b.offset ∙ z;
    }
