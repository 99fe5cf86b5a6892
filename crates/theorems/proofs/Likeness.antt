-- Likeness: from alike columns, runs in two lawful column domains have alike outcomes and the same trace, by either reading.
-- So two ends and sets have; nothing here looks at a relation.
use Prim.Native.Nat.{ℕ}
use mathlib.Core.Bool.{Bool}
use mathlib.Core.List.{List}
use Rattle.table.specs.Form as table
use Rattle.table.specs.Form.{Form, form, stands_for}
use Rattle.columns.specs.Domain.{Domain}
use Rattle.columns.specs.Lawful.{Lawful}
use Rattle.columns.specs.Alike.{Alike}
use Rattle.columns.proofs.LawfulLaws.{one_inside, inner_some}
use Rattle.columns.proofs.AlikeLaws.{alike_one, alike_inner, alike_leave}
use Rattle.columns.specs.declared.Reading.{Reading}
use Rattle.clauses.specs.Clauses.{Tokens, State, Outcome, success, failure, Fits, clear, aligned, Run, empty}
use Rattle.clauses.specs.Clauses.{terminal_clear, terminal_aligned, terminal_fails, rule, sequence, sequence_fails}
use Rattle.clauses.specs.Clauses.{choice_first, choice_second, not, not_fails, repeat_ends, repeat_again, indent}
use Rattle.clauses.specs.Clauses.{indent_fails, indent_through, position, align, align_fails}
use Rattle.clauses.specs.Trace.{Trace, captured, trace, Gives}
use Rattle.theorems.proofs.GiveLaws as give
use Rattle.clauses.specs.AlikeOutcomes.{AlikeOutcome, alike_success, alike_failure}
use Rattle.theorems.proofs.Narrows.{narrows}

module _ {ℓ κ ℓ' κ'} (D : Domain {ℓ, κ}) (E : Domain {ℓ', κ'}) (L : Lawful D) (M : Lawful E) (reading : Reading) (nodes rules : List ℕ) (tokens : Tokens) where
  -- What E gives from alike columns: an outcome that is alike, and the same trace.
  pub record Follows (τ : ℕ) (f : Form) (s : State E.Columns) (o : Outcome D.Columns) (t : Trace) : Type (ℓ ⊔ κ ⊔ ℓ' ⊔ κ') where
    pub outcome : Outcome E.Columns
    pub gives : Gives E reading nodes rules tokens τ f s outcome t
    pub alike : AlikeOutcome D E o outcome

  -- A token that fits in one fits in the other.
  fits_back : {τ i : ℕ} {I : D.Columns} {S : E.Columns} {b : Bool} → Alike D E I S → Fits E τ i S b → Fits D τ i I b
  fits_back {τ} {i} h (clear m) = clear (((alike_inner D E L M τ h).members i).0 m)
  fits_back {i = i} h (aligned m) = aligned ((h.members i).0 m)

  -- What follows a success, and what follows a failure, in E.
  on_success : {τ : ℕ} {f : Form} {v : State E.Columns} {s : State D.Columns} {t : Trace} {X : Type (ℓ ⊔ κ ⊔ ℓ' ⊔ κ')} → Follows τ f v (success s) t
      → ((S : E.Columns) → Alike D E s.1 S → Gives E reading nodes rules tokens τ f v (success (s.0, S, s.2)) t → X) → X
  on_success {τ} {f} {v} {s} {t} {X} a k = by_outcome a.outcome a.gives a.alike
    where
      by_outcome : (o : Outcome E.Columns) → Gives E reading nodes rules tokens τ f v o t → AlikeOutcome D E (success s) o → X
      by_outcome o g (alike_success {S = S} h) = k S h g

  on_failure :
      {τ : ℕ} {f : Form} {v : State E.Columns} {t : Trace} {X : Type (ℓ ⊔ κ ⊔ ℓ' ⊔ κ')}
      → Follows τ f v failure t
      → (Gives E reading nodes rules tokens τ f v failure t → X)
      → X
  on_failure {τ} {f} {v} {t} {X} a k = by_outcome a.outcome a.gives a.alike
    where
      by_outcome : (o : Outcome E.Columns) → Gives E reading nodes rules tokens τ f v o t → AlikeOutcome D E failure o → X
      by_outcome o g alike_failure = k g

  fails : {τ : ℕ} {f : Form} {v : State E.Columns} {t : Trace} → Gives E reading nodes rules tokens τ f v failure t → Follows τ f v failure t
  fails g = record { outcome = failure; gives = g; alike = alike_failure }

  succeeds :
      {τ : ℕ} {f : Form} {v : State E.Columns} {s : State D.Columns} {S : E.Columns} {t : Trace}
      → Alike D E s.1 S
      → Gives E reading nodes rules tokens τ f v (success (s.0, S, s.2)) t
      → Follows τ f v (success s) t
  succeeds {s = s} {S = S} h g = record { outcome = success (s.0, S, s.2); gives = g; alike = alike_success h }

  -- What is made of an outcome, whatever it is.
  made :
      {τ τ' : ℕ} {f g : Form} {v v' : State E.Columns} {o : Outcome D.Columns} {t t' : Trace}
      → ((p : Outcome E.Columns) → Gives E reading nodes rules tokens τ f v p t → Gives E reading nodes rules tokens τ' g v' p t')
      → Follows τ f v o t
      → Follows τ' g v' o t'
  made k a = record { outcome = a.outcome; gives = k a.outcome a.gives; alike = a.alike }

  ruled :
      {τ x : ℕ} {v : State E.Columns} {o : Outcome D.Columns} {t : Trace}
      → Follows τ (form nodes (stands_for rules x)) v o t
      → Follows τ (table.rule x) v o (captured x v.0 o t)
  ruled {o = success u} a = on_success a (λ S g r. succeeds g (give.rule r))
  ruled {o = failure} a = on_failure a (λ r. fails (give.rule r))

  -- The theorem: every run in D is followed by one in E.
  pub alike_run :
      {τ : ℕ} {f : Form} {s : State D.Columns} {o : Outcome D.Columns} {S : E.Columns} (d : Run D reading nodes rules tokens τ f s o)
      → Alike D E s.1 S
      → Follows τ f (s.0, S, s.2) o (trace D reading nodes rules tokens d)
  unfolding trace
  alike_run empty h = succeeds h give.empty
  alike_run (terminal_clear {τ = τ} {i = i} {I = I} n m) h =
      succeeds (alike_leave D E L M τ h (alike_one D E L M i) (one_inside D L i (D.inner τ I) m)) (give.terminal_clear n (((alike_inner D E L M τ h).members i).1 m))
  alike_run (terminal_aligned {i = i} n m) h = succeeds (alike_one D E L M i) (give.terminal_aligned n ((h.members i).1 m))
  alike_run (terminal_fails c) h = fails (give.terminal_fails (λ i n m. c i n (fits_back h m)))
  alike_run (rule d) h = ruled (alike_run d h)
  alike_run (sequence d e) h = on_success (alike_run d h) (λ S g r. made (λ p x. give.sequence r x) (alike_run e g))
  alike_run (sequence_fails d) h = on_failure (alike_run d h) (λ r. fails (give.sequence_fails r))
  alike_run (choice_first d) h = on_success (alike_run d h) (λ S g r. succeeds g (give.choice_first r))
  alike_run (choice_second d e) h = on_failure (alike_run d h) (λ r. made (λ p x. give.choice_second r x) (alike_run e h))
  alike_run (not d) h = on_failure (alike_run d h) (λ r. succeeds h (give.not r))
  alike_run (not_fails d) h = on_success (alike_run d h) (λ S g r. fails (give.not_fails r))
  alike_run (repeat_ends d) h = on_failure (alike_run d h) (λ r. succeeds h (give.repeat_ends r))
  alike_run (repeat_again d e) h = on_success (alike_run d h) (λ S g r. made (λ p x. give.repeat_again r x) (alike_run e g))
  alike_run (indent {ρ = ρ} {I = I} c d) h =
      on_success (alike_run d (alike_inner D E L M ρ h))
      (λ S g r. succeeds (alike_leave D E L M ρ h g (narrows D reading nodes rules tokens L (inner_some D L ρ I h.some) d).columns) (give.indent c r))
  alike_run (indent_fails {ρ = ρ} c d) h = on_failure (alike_run d (alike_inner D E L M ρ h)) (λ r. fails (give.indent_fails c r))
  alike_run (indent_through c d) h = made (λ p r. give.indent_through c r) (alike_run d h)
  alike_run (position d) h = made (λ p r. give.position r) (alike_run d h)
  alike_run (align d) h = on_success (alike_run d h) (λ S g r. succeeds g (give.align r))
  alike_run (align_fails d) h = on_failure (alike_run d h) (λ r. fails (give.align_fails r))

  pub alike_given :
      {τ : ℕ} {f : Form} {s : State D.Columns} {o : Outcome D.Columns} {S : E.Columns} {t : Trace}
      → Gives D reading nodes rules tokens τ f s o t
      → Alike D E s.1 S
      → Follows τ f (s.0, S, s.2) o t
  alike_given d h = rw d.shows at (alike_run d.run h)
