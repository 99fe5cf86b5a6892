-- `scanner_cases::hand_out` meets its contract: one token more, compared.
use Rattle.std.proofs.Common.{◌≡◌, ℕ, ◌+◌, Bool, ◌&&◌, Some, Ok, List, refl, sym, ap, ◌∙◌}
use Rattle.scanner.specs.declared.Step.{Step}
use Rattle.scanner.specs.declared.Token.{Token}
use Rattle.scanner_cases.specs.Handing.{is_token, holds_at, StepFrom, Walked, first, next}
use Rattle.scanner_cases.proofs.hand_out.Goals.{then-same, else-same}
use Rattle.scanner_cases.proofs.hand_out.Goals as goal

more :
    {file report words : List ℕ} {n : ℕ} {same both : Bool} {s s' : Step} {t : Token}
    → Walked file report words n same s
    → s.handed ≡ Ok (Some t)
    → StepFrom file report s.reached s'
    → both ≡ (same && holds_at words n (Ok (Some t)))
    → Walked file report words (n + 1) both s'
more {words = words} {n} {same} w h f e = rw (e ∙ ap (λ r. same && holds_at words n r) (sym h)) (next w (ap is_token h) f)

pub loop-count-init : goal.loop-count-init
loop-count-init c =
    first (record { handed = c.next_token-last.ensures.handed_value; stands = c.next_token-last.ensures.result_value })

pub loop-count-preserved : goal.loop-count-preserved
loop-count-preserved c =
    more c.loop-count.invariant (c.in-Ok-Some.is ∙ ap Ok (rw c.in-Ok-Some.is at c.in-Ok-Some.field-0-is))
    (record {
      handed = c.next_token-last-in-loop-count.ensures.handed_value;
      stands = c.next_token-last-in-loop-count.ensures.result_value;
    })
    (elim c.if-same.branch [
      | then-same w ↦ w.same-is ∙ rw w.if-same.true w.holds-same.ensures
      | else-same w ↦ w.same-is ∙ rw w.if-same.false refl
    ])
