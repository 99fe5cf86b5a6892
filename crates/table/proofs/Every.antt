-- Laws of `every`: one number more, a number that fails, and two tests that agree.
use Prim.Native.Nat.{ℕ, zero, suc, ◌+◌, ◌<◌}
use mathlib.Core.Path.{◌≡◌, refl, sym, ap₂}
use mathlib.Core.Bool.{Bool, true, false, ◌&&◌, ◌||◌, and-false, true≢false}
use mathlib.Core.Logic.{⊎_elim}
use native.Mathlib.Nat.{eq-or-lt_of_le, le_of_suc-le-suc}
use native.Mathlib.Omega.{arith}
use native.Mathlib.Numerals.{add-one}
use Rattle.table.specs.Every.{every}

-- Whether a test holds of every number below n + 1: whether it does below n, and of n.
pub every_next : (n : ℕ) (test : ℕ → Bool) {a b : Bool} → a ≡ every n test → b ≡ test n → (a && b) ≡ every (n + 1) test
unfolding every
every_next n test e h = rw (add-one, e, h) refl

-- What holds of every number below n, and of n, holds of every number below n + 1.
pub every_more : (n : ℕ) (test : ℕ → Bool) → every n test ≡ true → test n ≡ true → every (n + 1) test ≡ true
every_more n test h e = sym (every_next n test (sym h) (sym e))

-- One number that fails is enough.
pub every_fails : (n : ℕ) (test : ℕ → Bool) (i : ℕ) → i < n → test i ≡ false → every n test ≡ false
unfolding every
every_fails zero test i h e = absurd (omega arith)
every_fails (suc n) test i h e =
    ⊎_elim (λ p. rw (← p, e) (and-false (every i test))) (λ a. rw (every_fails n test i a e) refl) (eq-or-lt_of_le (le_of_suc-le-suc h))

-- Two tests that agree below n.
pub every_same : (n : ℕ) (p q : ℕ → Bool) → ((i : ℕ) → i < n → p i ≡ q i) → every n p ≡ every n q
unfolding every
every_same zero p q h = refl
every_same (suc n) p q h = ap₂ ◌&&◌ (every_same n p q (λ i a. h i (omega arith))) (h n (omega arith))

pub and_left : (a b : Bool) → (a && b) ≡ true → a ≡ true
and_left true b e = refl
and_left false b e = e

pub and_right : (a b : Bool) → (a && b) ≡ true → b ≡ true
and_right true b e = e
and_right false true e = refl
and_right false false e = e

-- Of two tests neither of which holds, each does not.
pub both_false : (a b : Bool) → (a || b) ≡ false → (a ≡ false) × (b ≡ false)
both_false false b e = (refl, e)
both_false true b e = absurd (true≢false e)

-- What holds of every number below n holds of each.
pub every_at : (n : ℕ) (test : ℕ → Bool) → every n test ≡ true → (i : ℕ) → i < n → test i ≡ true
unfolding every
every_at zero test e i h = absurd (omega arith)
every_at (suc n) test e i h =
    ⊎_elim (λ p. rw p (and_right (every n test) (test n) e)) (λ a. every_at n test (and_left (every n test) (test n) e) i a) (eq-or-lt_of_le (le_of_suc-le-suc h))
