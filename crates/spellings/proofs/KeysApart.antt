-- Keys keep alike spellings apart: spellings that differ in one of the first 32 bytes only have different keys, wherever it
-- stands. So keywords that differ in one byte only do not meet in an index, be it the first, the last or one between.
use Prim.Native.Nat.{ℕ, zero, suc, ◌+◌, ◌*◌, ◌/◌, ◌%◌, ◌^◌, ◌<◌}
use mathlib.Core.Path.{◌≡◌, refl, sym, ap, ap₂, ◌∙◌}
use mathlib.Core.List.{List}
use mathlib.Core.Logic.{⊎_elim}
use native.Mathlib.Omega.{arith}
use native.Mathlib.Nat.{eq-or-lt_of_le, div-add-mod', mul_assoc, mul_comm, mul-add, add-mul, mul-one}
use borrow.Author.Tests.{eqb-true}
use lib.ListN.{get_or}
use lib.Dec.{eqb}
use Rattle.table.specs.Every.{every}
use Rattle.table.proofs.Every.{every_at}
use Rattle.spellings.specs.Keys.{sum, weight, key_of}
use Rattle.spellings.proofs.KeyLaws.{part_of}

-- Sums of like values are like.
sum_same : (f g : ℕ → ℕ) (n : ℕ) → ((i : ℕ) → i < n → f i ≡ g i) → sum n f ≡ sum n g
unfolding sum
sum_same f g zero h = refl
sum_same f g (suc n) h = ap₂ ◌+◌ (sum_same f g n (λ i a. h i (omega arith))) (h n (omega arith))

-- Sums of values that are like but for one differ as these two do.
sum_apart : (f g : ℕ → ℕ) (k n : ℕ) → k < n → ((i : ℕ) → i < n → (i ≡ k → ⊥) → f i ≡ g i) → sum n f + g k ≡ sum n g + f k
unfolding sum
sum_apart f g k zero a h = absurd (omega arith)
sum_apart f g k (suc n) a h =
    ⊎_elim
    (λ (e : k ≡ n). rw e (let s = sum_same f g n (λ i b. h i (omega arith) (λ p. omega arith)) in omega (arith, s)))
    (λ (b : k < n). let s = sum_apart f g k n b (λ i c p. h i (omega arith) p) in let t = h n (omega arith) (λ p. omega arith) in omega (arith, s, t))
    (eq-or-lt_of_le (omega arith))

-- A weight has an inverse: it is odd.
inverse : ℕ → ℕ
inverse k = weight k ^ 1023 % 4096

inverse_right : (k : ℕ) → k < 32 → weight k * inverse k % 4096 ≡ 1
unfolding every weight inverse
inverse_right k h = eqb-true _ _ (every_at 32 (λ i. eqb (weight i * inverse i % 4096) 1) refl k h)

-- Times the inverse of w, a times w is a, modulo 4,096.
undone : (q a w v u : ℕ) → w * v ≡ u * 4096 + 1 → (q * 4096 + a * w) * v ≡ (q * v + a * u) * 4096 + a
undone q a w v u e = add-mul (q * 4096) (a * w) v ∙ ap₂ ◌+◌ left right ∙ omega arith
  where
    left : q * 4096 * v ≡ q * v * 4096
    left = mul_assoc q 4096 v ∙ ap (λ (x : ℕ). q * x) (mul_comm 4096 v) ∙ sym (mul_assoc q v 4096)

    right : a * w * v ≡ a * u * 4096 + a
    right =
        mul_assoc a w v
        ∙ ap (λ (x : ℕ). a * x) e
        ∙ mul-add a (u * 4096) 1
        ∙ ap₂ ◌+◌ (sym (mul_assoc a u 4096)) (mul-one a)

-- Where x and y are like modulo 4,096, and x with b times w is y with a times w, a and b are the same if w has an inverse.
same_factor :
    (x y a b w v : ℕ)
    → w * v % 4096 ≡ 1
    → x % 4096 ≡ y % 4096
    → x + b * w ≡ y + a * w
    → a < 4096
    → b < 4096
    → a ≡ b
same_factor x y a b w v o m e g h =
    let u : w * v ≡ w * v / 4096 * 4096 + 1 = omega (arith, div-add-mod' (w * v) 4096, o) in
    let q : x / 4096 * 4096 + b * w ≡ y / 4096 * 4096 + a * w = omega (arith, div-add-mod' x 4096, div-add-mod' y 4096, m, e) in
    let both = sym (undone (x / 4096) b w v (w * v / 4096) u) ∙ ap (λ (n : ℕ). n * v) q ∙ undone (y / 4096) a w v (w * v / 4096) u in
    omega (arith, both, g, h)

-- Two spellings with one key that agree in all of their first 32 bytes but one agree in that one too.
pub keys_apart :
    (s t : List ℕ) (k : ℕ)
    → k < 32
    → get_or s k 0 < 256
    → get_or t k 0 < 256
    → ((i : ℕ) → i < 32 → (i ≡ k → ⊥) → get_or s i 0 ≡ get_or t i 0)
    → key_of s ≡ key_of t
    → get_or s k 0 ≡ get_or t k 0
unfolding key_of
keys_apart s t k h a b r e =
    same_factor (sum 32 (part_of s)) (sum 32 (part_of t)) (get_or s k 0) (get_or t k 0) (weight k) (inverse k) (inverse_right k h) e
    (sum_apart (part_of s) (part_of t) k 32 h (λ i c p. ap (λ (x : ℕ). x * weight i) (r i c p))) (omega arith) (omega arith)
