-- 02, note 1: on the way out the upper end is not below the amount. Agreement with sets holds for such intervals (`columns`,
-- `step_outside`), and these two laws show that a run has no others.
use Prim.Native.Nat.{ℕ}
use mathlib.Core.Bool.{Bool}
use mathlib.Core.List.{List}
use Rattle.table.specs.Form.{Form}
use Rattle.columns.specs.Relations.{amount}
use Rattle.columns.specs.Lawful.{Some}
use Rattle.columns.specs.Intervals.{ends, inner_ends, only, Lies, UpTo}
use Rattle.columns.proofs.EndLaws.{ends_lawful, not_below_amount}
use Rattle.columns.proofs.LawfulLaws.{one_inside, one_some, inner_some}
use Rattle.columns.specs.declared.Interval.{Interval}
use Rattle.columns.specs.declared.Reading.{Reading}
use Rattle.clauses.specs.Clauses.{Tokens, success, Run}
use Rattle.theorems.proofs.Narrows.{narrows}

-- "since a child only narrows the interval that it was given": clause 8's way out.
pub child_not_below :
    (reading : Reading) (nodes rules : List ℕ) (tokens : Tokens) {τ w w' : ℕ} {f : Form} (ρ : ℕ) (I I' : Interval) {b b' : Bool}
    → Some ends I
    → Run ends reading nodes rules tokens τ f (w, inner_ends ρ I, b) (success (w', I', b'))
    → UpTo (amount ρ) I'.upper
child_not_below reading nodes rules tokens ρ I I' n d =
    let h = narrows ends reading nodes rules tokens ends_lawful (inner_some ends ends_lawful ρ I n) d in
    not_below_amount ρ I I' h.some h.columns

-- "and a token must lie in the inner set": clause 2's way out, under a clear flag.
pub token_not_below : (τ i : ℕ) (I : Interval) → Lies i (inner_ends τ I) → UpTo (amount τ) (only i).upper
token_not_below τ i I m = not_below_amount τ I (only i) (one_some ends ends_lawful i) (one_inside ends ends_lawful i (inner_ends τ I) m)
