-- At most one outcome, in any column domain (001, theorem 2.1): e, τ ⊢ s → o, e, τ ⊢ s → o' ⟹ o = o'. And with it one trace:
-- two derivations of the same run have the same captures and the same farthest place.
use Prim.Native.Nat.{ℕ, ◌+◌}
use mathlib.Core.Path.{◌≡◌, refl, sym, ap, ap₂, subst, ◌∙◌}
use mathlib.Core.Bool.{false, true≢false}
use mathlib.Core.List.{List}
use native.Mathlib.Omega.{arith}
use Rattle.table.specs.Form.{Form}
use Rattle.columns.specs.Domain.{Domain}
use Rattle.columns.specs.declared.Reading.{Reading}
use Rattle.clauses.specs.Clauses.{Tokens, State, Outcome, success, failure, clear, aligned, handed_on, Run, empty}
use Rattle.clauses.specs.Clauses.{terminal_clear, terminal_aligned, terminal_fails, rule, sequence, sequence_fails}
use Rattle.clauses.specs.Clauses.{choice_first, choice_second, not, not_fails, repeat_ends, repeat_again, indent}
use Rattle.clauses.specs.Clauses.{indent_fails, indent_through, position, align, align_fails}
use Rattle.clauses.specs.Trace.{Trace, ◌then◌, dropped, captured, trace, Gives}

module _ {ℓ κ} (D : Domain {ℓ, κ}) (reading : Reading) (nodes rules : List ℕ) (tokens : Tokens) where
  same_state : {s t : State D.Columns} → success s ≡ success t → s ≡ t
  same_state e = cc

  apart : {s : State D.Columns} → success s ≡ failure → ⊥
  apart e = let z : ◌≡◌ {A = ℕ} 0 1 = cc in omega arith

  -- What is given from a state that is the same.
  moved :
      {τ : ℕ} {f : Form} {s t : State D.Columns} {o : Outcome D.Columns} {u : Trace}
      → success s ≡ success t
      → Gives D reading nodes rules tokens τ f t o u
      → Gives D reading nodes rules tokens τ f s o u
  moved {τ} {f} {o = o} {u = u} e d = subst (λ (v : State D.Columns). Gives D reading nodes rules tokens τ f v o u) (sym (same_state e)) d

  -- The same outcome, and the same trace.
  pub record Same (o o' : Outcome D.Columns) (t t' : Trace) : Type ℓ where
    pub outcome : o ≡ o'
    pub shown : t ≡ t'

  showing : {o : Outcome D.Columns} {t t' : Trace} → t ≡ t' → Same o o t t'
  showing e = record { outcome = refl; shown = e }

  pub one_run :
      {τ : ℕ} {f : Form} {s : State D.Columns} {o o' : Outcome D.Columns} (d : Run D reading nodes rules tokens τ f s o)
      (e : Run D reading nodes rules tokens τ f s o')
      → Same o o' (trace D reading nodes rules tokens d) (trace D reading nodes rules tokens e)
  unfolding trace
  one_run empty empty = showing refl
  one_run (terminal_clear {τ = τ} {w = w} {I = I} n m) (terminal_clear n' m') =
      record { outcome = ap (λ (i : ℕ). success (w + 1, D.meet I (D.outer τ (D.one i)), false)) (sym n.column ∙ n'.column); shown = refl }
  one_run (terminal_clear n m) (terminal_fails h) = absurd (h _ n (clear m))
  one_run (terminal_aligned {w = w} n m) (terminal_aligned n' m') =
      record { outcome = ap (λ (i : ℕ). success (w + 1, D.one i, false)) (sym n.column ∙ n'.column); shown = refl }
  one_run (terminal_aligned n m) (terminal_fails h) = absurd (h _ n (aligned m))
  one_run (terminal_fails h) (terminal_clear n m) = absurd (h _ n (clear m))
  one_run (terminal_fails h) (terminal_aligned n m) = absurd (h _ n (aligned m))
  one_run (terminal_fails h) (terminal_fails h') = showing refl
  one_run (rule {x = x} {s = s} d) (rule e) =
      let q = one_run d e in
      record { outcome = q.outcome; shown = ap₂ (captured x s.0) q.outcome q.shown }
  one_run (sequence d d') (sequence {o = o'} e e') =
      let q = one_run d e in
      let x = moved q.outcome (record { run = e'; shows = refl }) in
      let r = one_run {o' = o'} d' x.run in
      record { outcome = r.outcome; shown = ap₂ ◌then◌ q.shown (r.shown ∙ x.shows) }
  one_run (sequence d d') (sequence_fails e) = absurd (apart (one_run d e).outcome)
  one_run (sequence_fails d) (sequence e e') = absurd (apart (sym (one_run d e).outcome))
  one_run (sequence_fails d) (sequence_fails e) = showing (one_run d e).shown
  one_run (choice_first d) (choice_first e) = one_run d e
  one_run (choice_first d) (choice_second e e') = absurd (apart (one_run d e).outcome)
  one_run (choice_second d d') (choice_first e) = absurd (apart (sym (one_run d e).outcome))
  one_run (choice_second d d') (choice_second e e') =
      let q = one_run d' e' in
      record { outcome = q.outcome; shown = ap₂ (λ (t u : Trace). dropped t then u) (one_run d e).shown q.shown }
  one_run (not d) (not e) = showing (ap dropped (one_run d e).shown)
  one_run (not d) (not_fails e) = absurd (apart (sym (one_run d e).outcome))
  one_run (not_fails d) (not e) = absurd (apart (one_run d e).outcome)
  one_run (not_fails d) (not_fails e) = showing (ap dropped (one_run d e).shown)
  one_run (repeat_ends d) (repeat_ends e) = showing (ap dropped (one_run d e).shown)
  one_run (repeat_ends d) (repeat_again e e') = absurd (apart (sym (one_run d e).outcome))
  one_run (repeat_again d d') (repeat_ends e) = absurd (apart (one_run d e).outcome)
  one_run (repeat_again d d') (repeat_again {o = o'} e e') =
      let q = one_run d e in
      let x = moved q.outcome (record { run = e'; shows = refl }) in
      let r = one_run {o' = o'} d' x.run in
      record { outcome = r.outcome; shown = ap₂ ◌then◌ q.shown (r.shown ∙ x.shows) }
  one_run (indent {ρ = ρ} {I = I} c d) (indent c' e) =
      let q = one_run d e in
      record { outcome = ap (λ (t : State D.Columns). success (t.0, D.meet I (D.outer ρ t.1), t.2)) (same_state q.outcome); shown = q.shown }
  one_run (indent c d) (indent_fails c' e) = absurd (apart (one_run d e).outcome)
  one_run (indent c d) (indent_through c' e) = absurd (true≢false (sym c ∙ c'))
  one_run (indent_fails c d) (indent c' e) = absurd (apart (sym (one_run d e).outcome))
  one_run (indent_fails c d) (indent_fails c' e) = showing (one_run d e).shown
  one_run (indent_fails c d) (indent_through c' e) = absurd (true≢false (sym c ∙ c'))
  one_run (indent_through c d) (indent c' e) = absurd (true≢false (sym c' ∙ c))
  one_run (indent_through c d) (indent_fails c' e) = absurd (true≢false (sym c' ∙ c))
  one_run (indent_through c d) (indent_through c' e) = one_run d e
  one_run (position d) (position e) = one_run d e
  one_run (align {b = b} d) (align e) =
      let q = one_run d e in
      record { outcome = ap (λ (t : State D.Columns). success (t.0, t.1, handed_on reading b t.2)) (same_state q.outcome); shown = q.shown }
  one_run (align d) (align_fails e) = absurd (apart (one_run d e).outcome)
  one_run (align_fails d) (align e) = absurd (apart (sym (one_run d e).outcome))
  one_run (align_fails d) (align_fails e) = record { outcome = refl; shown = (one_run d e).shown }

  -- So the clauses give at most one outcome,
  pub one_outcome :
      {τ : ℕ} {f : Form} {s : State D.Columns} {o o' : Outcome D.Columns}
      → Run D reading nodes rules tokens τ f s o
      → Run D reading nodes rules tokens τ f s o'
      → o ≡ o'
  one_outcome d e = (one_run d e).outcome

  -- and one trace with it.
  pub one_trace :
      {τ : ℕ} {f : Form} {s : State D.Columns} {o o' : Outcome D.Columns} {t t' : Trace}
      → Gives D reading nodes rules tokens τ f s o t
      → Gives D reading nodes rules tokens τ f s o' t'
      → Same o o' t t'
  one_trace d e = let q = one_run d.run e.run in record { outcome = q.outcome; shown = sym d.shows ∙ q.shown ∙ e.shows }
