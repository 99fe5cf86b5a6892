-- The class of a continuation byte.
use Prim.Native.Nat.{ℕ, ◌≤◌}
use mathlib.Core.Path.{◌≡◌, refl}
use mathlib.Core.Bool.{Bool, true, false, ◌&&◌}
use lib.Dec.{leb}
use native.Mathlib.Omega.{arith}
use borrow.Author.Tests.{leb-true, le-ltb, le-leb, lt-leb, ne_eqb}
use Rattle.byte_class.specs.Bytes.{is_single, is_continuation, class_of}
use Rattle.byte_class.specs.declared.Class.TheVariants.{Continuation}

-- No other test holds of a continuation byte.
pub continuation_class : (b : ℕ) → is_continuation b ≡ true → class_of b ≡ Continuation
unfolding class_of is_single is_continuation
continuation_class b e =
    let low : 128 ≤ b = leb-true 128 b (first (leb 128 b) (leb b 191) e) in
    rw (
      ne_eqb b 10 (omega arith),
      ne_eqb b 9 (omega arith),
      ne_eqb b 13 (omega arith),
      ne_eqb b 32 (omega arith),
      le-ltb b 32 (omega arith),
      ne_eqb b 127 (omega arith),
      ne_eqb b 58 (omega arith),
      ne_eqb b 44 (omega arith),
      ne_eqb b 40 (omega arith),
      ne_eqb b 41 (omega arith),
      ne_eqb b 91 (omega arith),
      ne_eqb b 93 (omega arith),
      ne_eqb b 61 (omega arith),
      ne_eqb b 59 (omega arith),
      ne_eqb b 37 (omega arith),
      le-leb 48 b (omega arith),
      lt-leb b 57 (omega arith),
      e,
    )
  where
    first : (p q : Bool) → (p && q) ≡ true → p ≡ true
    first true q h = refl
    first false q h = h
