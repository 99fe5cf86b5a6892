-- The columns of a byte of a run.
use Rattle.std.proofs.Common.{◌≡◌, ℕ, ◌+◌, Bool, true, false, cond, ◌&&◌, ◌||◌, leb, ltb, eqb, sym, ap, ◌∙◌, refl, add-zero}
use mathlib.Core.Bool.{true≢false, false≢true}
use Rattle.byte_class.specs.Bytes.{is_single, is_continuation, class_of}
use Rattle.byte_class.specs.declared.Class.{Class}
use Rattle.byte_class.specs.declared.Class.TheVariants.{Break, Tab, Blank, Single, Digit, Run, Continuation, Refused}
use Rattle.byte_class.proofs.ClassLaws.{continuation_class}
use Rattle.places.specs.Columns.{column_by, column_after}
use Rattle.places.specs.Places.{run_class, in_run}

pub run_width : (b c : ℕ) → in_run b ≡ true → c + cond (is_continuation b) 0 1 ≡ column_after b c
unfolding in_run column_after class_of
run_width b c e = by_test (is_continuation b) refl
  where
    others :
        (p q r s t d k : Bool)
        → k ≡ false
        → run_class (cond p Break (cond q Tab (cond r Blank (cond s Refused (cond t Single (cond d Digit (cond k Continuation Run))))))) ≡ true
        → c + 1 ≡ column_by (cond p Break (cond q Tab (cond r Blank (cond s Refused (cond t Single (cond d Digit (cond k Continuation Run))))))) c
    others true q r s t d k n h = absurd (false≢true h)
    others false true r s t d k n h = absurd (false≢true h)
    others false false true s t d k n h = absurd (false≢true h)
    others false false false true t d k n h = absurd (false≢true h)
    others false false false false true d k n h = absurd (false≢true h)
    others false false false false false true k n h = refl
    others false false false false false false true n h = absurd (true≢false n)
    others false false false false false false false n h = refl

    by_test : (k : Bool) → is_continuation b ≡ k → c + cond k 0 1 ≡ column_by (class_of b) c
    by_test true k = add-zero c ∙ ap (λ (k : Class). column_by k c) (sym (continuation_class b k))
    by_test false k =
        others (eqb b 10) (eqb b 9) (eqb b 13 || eqb b 32) (ltb b 32 || eqb b 127) (is_single b) (leb 48 b && leb b 57) (is_continuation b) k e
