-- What a capture that 14 passes is.
use Prim.Native.Nat.{ℕ, zero, suc, ◌+◌, ◌-◌, ◌/◌, ◌≤◌, ◌<◌}
use mathlib.Core.Path.{◌≡◌}
use mathlib.Core.Bool.{Bool, true, false}
use mathlib.Core.List.{List}
use native.Mathlib.Omega.{arith}
use native.Mathlib.Nat.{le_trans}
use borrow.Author.Tests.{not-false, lt-ltb, ltb-true, ltb-false, leb-true}
use lib.ListN.{length}
use lib.Dec.{leb}
use Rattle.table.specs.Every.{every}
use Rattle.table.proofs.Every.{and_left, and_right, both_false}
use Rattle.columns.specs.declared.Capture.{Capture}
use Rattle.capture_checks.specs.Fourteen.{token_offset, token_end, last_token, offsets_fall, fails14}

-- What a capture that 14 passes is.
pub record Right (rules bytes : ℕ) (words : List ℕ) (c : Capture) : Type 0 where
  pub there : c.rule < rules
  pub reached : c.after ≤ length words / 4
  pub order : c.first ≤ c.after
  pub rise : offsets_fall words c.first c.after ≡ false
  pub inside : c.first < c.after → token_end words (last_token c) ≤ bytes

pub right_capture : (rules bytes : ℕ) (words : List ℕ) (c : Capture) → fails14 rules bytes words c ≡ false → Right rules bytes words c
unfolding fails14
right_capture rules bytes words c e =
    let e4 = both_false _ _ e in
    let e3 = both_false _ _ e4.0 in
    let e2 = both_false _ _ e3.0 in
    let e1 = both_false _ _ e2.0 in
    record {
      there = ltb-true c.rule rules (not-false _ e1.0);
      reached = ltb-false _ _ e1.1;
      order = ltb-false _ _ e2.1;
      rise = e3.1;
      inside = λ h. ltb-false _ _ (rw (lt-ltb c.first c.after h) at e4.1);
    }

-- Whether the offset behind the ith is not below it.
abbrev pub not_below : List ℕ → ℕ → ℕ → Bool
not_below words first i = leb (token_offset words (first + i)) (token_offset words (first + i + 1))

-- Where no offset falls, the last is not below the first.
rising : (words : List ℕ) (first n : ℕ) → every n (not_below words first) ≡ true → token_offset words first ≤ token_offset words (first + n)
unfolding every
rising words first zero e = let z : first + 0 ≡ first = omega arith in rw z (omega arith)
rising words first (suc n) e =
    let z : first + suc n ≡ first + n + 1 = omega arith in
    rw z
    (le_trans (rising words first n (and_left (every n (not_below words first)) (not_below words first n) e))
    (leb-true (token_offset words (first + n)) (token_offset words (first + n + 1)) (and_right (every n (not_below words first)) (not_below words first n) e)))

module _ {rules bytes : ℕ} {words : List ℕ} {c : Capture} (r : Right rules bytes words c) (h : c.first < c.after) where
  -- So the text begins before it ends.
  pub begins_before : token_offset words c.first ≤ token_end words (last_token c)
  unfolding offsets_fall
  begins_before =
      let z : c.first + (c.after - c.first - 1) ≡ c.after - 1 = omega arith in
      let k : token_offset words c.first ≤ token_offset words (c.after - 1) =
      rw z at (rising words c.first (c.after - c.first - 1) (not-false _ r.rise)) in
      omega arith
