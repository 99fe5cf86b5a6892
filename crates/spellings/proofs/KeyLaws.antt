-- The sum that a key is made of, and keys that were met among the first spellings.
use Prim.Native.Nat.{ℕ, zero, suc, ◌+◌, ◌*◌, ◌-◌, ◌^◌, ◌≤◌, ◌<◌, min}
use mathlib.Core.Path.{◌≡◌, refl, sym, ap, ◌∙◌}
use mathlib.Core.Bool.{Bool, true, false, not, false≢true}
use mathlib.Core.List.{List, [], ◌∷◌}
use native.Mathlib.Omega.{arith}
use native.Mathlib.Nat.{eq-or-lt_of_le, le_of_lt, mod-lt, mul-le-mul_left, zero-add, suc-add, add-zero, zero-mul}
use native.Mathlib.Numerals.{add-one}
use borrow.Author.Tests.{eqb-true}
use lib.Dec.{eqb}
use mathlib.Core.Logic.{⊎_elim}
use lib.ListN.{length, get_or, set, replicate, length-set, length-replicate, get_or-eq_default}
use lib.Seq.{get_or-set_same}
use Rattle.table.specs.Every.{every}
use Rattle.table.proofs.Every.{every_at}
use Rattle.table.proofs.Cells.{set_stays}
use Rattle.spellings.specs.Spellings.{same_bytes}
use Rattle.spellings.specs.Keys.{sum, weight, key_of}
use Rattle.spellings.proofs.SpellingLaws.{every_each, same_exactly}

-- What the byte at an index adds to the sum.
abbrev pub part_of : List ℕ → ℕ → ℕ
part_of s i = get_or s i 0 * weight i

-- The weights as the code has them.
abbrev pub weights : List ℕ
weights =
    1 ∷ 153 ∷ 113 ∷ 137 ∷ 225 ∷ 121 ∷ 81 ∷ 105 ∷ 193 ∷ 89 ∷ 49 ∷ 73 ∷ 161 ∷ 57 ∷ 17 ∷ 41 ∷
    129 ∷ 25 ∷ 241 ∷ 9 ∷ 97 ∷ 249 ∷ 209 ∷ 233 ∷ 65 ∷ 217 ∷ 177 ∷ 201 ∷ 33 ∷ 185 ∷ 145 ∷ 169 ∷ []

weights_right : (i : ℕ) → i < 32 → get_or weights i 0 ≡ weight i
unfolding every weight
weights_right i h = eqb-true _ _ (every_at 32 (λ k. eqb (get_or weights k 0) (weight k)) refl i h)

weight_small : (i : ℕ) → weight i < 256
unfolding weight
weight_small i = mod-lt (153 ^ i) (omega arith)

-- The sum over the bytes before an index, each of which adds no more than 65,536.
pub record Summed (s : List ℕ) (i total : ℕ) : Type 0 where
  pub within : i ≤ 32
  pub right : total ≡ sum i (part_of s)
  pub small : total ≤ i * 65536

pub summed_none : {s : List ℕ} → Summed s 0 0
unfolding sum
summed_none = record { within = omega arith; right = refl; small = omega arith }

-- One byte more, times its weight.
pub summed_more : {s : List ℕ} {i total b w : ℕ} → Summed s i total → i < 32 → b < 256 → b ≡ get_or s i 0 → w ≡ get_or weights i 0 → Summed s (i + 1) (total + b * w)
unfolding sum
summed_more {s} {i} {total} {b} {w} m h small e f =
    let weighed : w ≡ weight i = f ∙ weights_right i h in
    let part : b * w ≡ part_of s i = rw (e, weighed) refl in
    let few : b * w ≤ b * 256 = mul-le-mul_left b (rw weighed (le_of_lt (weight_small i))) in
    record {
      within = omega arith;
      right = rw (add-one, part, m.right) refl;
      small = omega (arith, m.small, few);
    }

-- What adds nothing may be left out.
sum_rest : (f : ℕ → ℕ) (n k : ℕ) → ((i : ℕ) → n ≤ i → i < k + n → f i ≡ 0) → sum (k + n) f ≡ sum n f
unfolding sum
sum_rest f n zero z = rw (zero-add n) refl
sum_rest f n (suc k) z =
    rw (suc-add k n, z (k + n) (omega arith) (omega arith), add-zero (sum (k + n) f)) (sum_rest f n k (λ i a b. z i a (omega arith)))

-- Bytes past the end add nothing.
pub summed_all : {s : List ℕ} {i total : ℕ} → Summed s i total → i ≡ min (length s) 32 → total ≡ sum 32 (part_of s)
summed_all {s} {i} {total} m e =
    let whole : 32 - i + i ≡ 32 = omega arith in
    m.right
    ∙ rw (← whole)
    (sym (sum_rest (part_of s) i (32 - i) (λ k a b. rw (get_or-eq_default s 0 {n = k} (omega arith)) (zero-mul (weight k)))))

-- The key of each of the first j spellings is marked.
pub record Met (names : List (List ℕ)) (j : ℕ) (met : List Bool) : Type 0 where
  pub wide : length met ≡ 4096
  pub marked : (k : ℕ) → k < j → get_or met (key_of (get_or names k [])) false ≡ true

module _ {names : List (List ℕ)} where
  pub met_none : Met names 0 (replicate 4096 false)
  met_none = record { wide = length-replicate 4096 false; marked = λ k h. absurd (omega arith) }

  -- Spelling j is met.
  pub met_more : {j h : ℕ} {met : List Bool} {s : List ℕ} → Met names j met → get_or names j [] ≡ s → h ≡ key_of s → h < 4096 → Met names (j + 1) (set met h true)
  met_more {j} {h} {met} {s} m e k b =
      record {
        wide = length-set met h true ∙ m.wide;
        marked = λ i a. ⊎_elim
            (λ (same : i ≡ j). rw (same, e, ← k) (get_or-set_same met h true false (rw m.wide b)))
            (λ (less : i < j). set_stays met h (key_of (get_or names i [])) (m.marked i less))
            (eq-or-lt_of_le (omega arith));
      }

  -- A spelling whose key is not marked is none of the first j.
  unmarked :
      {j : ℕ} {met : List Bool} (s : List ℕ)
      → Met names j met
      → get_or met (key_of s) false ≡ false
      → (i : ℕ)
      → i < j
      → (b : Bool)
      → same_bytes (get_or names i []) s ≡ b
      → not b ≡ true
  unmarked s m e i a false p = refl
  unmarked {j} {met} s m e i a true p =
      absurd (false≢true (sym e ∙ rw (← (same_exactly (get_or names i []) s).0 p) (m.marked i a)))

  pub none_same :
      {j h : ℕ} {met : List Bool} (s : List ℕ)
      → Met names j met
      → h ≡ key_of s
      → get_or met h false ≡ false
      → every j (λ i. not (same_bytes (get_or names i []) s)) ≡ true
  none_same {j} {h} {met} s m k e =
      every_each j _ (λ i a. unmarked s m (ap (λ (x : ℕ). get_or met x false) (sym k) ∙ e) i a (same_bytes (get_or names i []) s) refl)
