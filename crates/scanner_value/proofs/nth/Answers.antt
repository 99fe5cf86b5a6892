-- `scanner_value::nth` meets its contract.
use Rattle.std.proofs.Common.{◌≡◌, Option, ℕ, suc, List, Bor, refl, sym, ap, ◌∙◌, arith}
use Rattle.table.specs.Answer.{Answer}
use Rattle.scanner.specs.declared.Token.{Token}
use Rattle.scanner.specs.Steps.{Position, step_answer, standing}
use Rattle.scanner_value.specs.Nth.{stepped, nth_answer}
use Rattle.scanner_value.proofs.nth.Goals as goal

-- Step 0 is the next one.
at_once : (file text : List ℕ) (n : ℕ) (p : Position) → n ≡ 0 → nth_answer file text n p ≡ step_answer file text p
unfolding nth_answer
at_once file text n p e = rw e refl

-- Any other is one less, from where the value stands after the next one.
later : (file text : List ℕ) (m n : ℕ) (p : Position) → n ≡ suc m → nth_answer file text m (stepped file text p) ≡ nth_answer file text n p
unfolding nth_answer
later file text m n p e = rw e refl

-- Where it stands then.
moved :
    (file text held : List ℕ) (p q : Position) {x : Answer (Option Token)}
    → held ≡ text
    → x ≡ step_answer file held p
    → q ≡ standing x held p
    → q ≡ stepped file text p
unfolding stepped
moved file text held p q r e m = rw (← r, ← e) m

pub loop-preserved : goal.loop-preserved
loop-preserved c = (
  ap (λ (b : Bor (List ℕ)). b.now) c.next.ensures.report_unchanged ∙ c.loop.invariant.0,
  rw (moved _ _ _ _ _ c.loop.invariant.0 c.next.ensures.result_value c.next.ensures.mark_after)
      (later _ _ _ _ _ (omega arith) ∙ c.loop.invariant.1),
)

pub returns : goal.returns
returns c = (rw c.loop.invariant.0 at c.next-2.ensures.result_value) ∙ sym (at_once _ _ _ _ (omega arith)) ∙ c.loop.invariant.1
