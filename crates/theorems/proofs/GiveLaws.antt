-- The clauses with their traces: what each clause gives, from what its parts give. Named as the clauses are.
use Prim.Native.Nat.{ℕ, ◌+◌}
use mathlib.Core.Path.{◌≡◌, refl, ap, ap₂}
use mathlib.Core.Bool.{Bool, true, false}
use mathlib.Core.List.{List}
use Rattle.table.specs.Form as table
use Rattle.table.specs.Form.{form, stands_for}
use Rattle.columns.specs.Domain.{Domain}
use Rattle.columns.specs.declared.Reading.{Reading}
use Rattle.clauses.specs.Clauses as clauses
use Rattle.clauses.specs.Clauses.{Tokens, Next, State, Outcome, success, failure, Fits, counts, handed_on}
use Rattle.clauses.specs.Trace.{Trace, silent, tried, ◌then◌, dropped, captured, trace, Gives}

module _ {ℓ κ} {D : Domain {ℓ, κ}} {reading : Reading} {nodes rules : List ℕ} {tokens : Tokens} {τ : ℕ} where
  pub empty : {s : State D.Columns} → Gives D reading nodes rules tokens τ table.empty s (success s) silent
  unfolding trace
  empty = record { run = clauses.empty; shows = refl }

  pub terminal_clear :
      {a i w : ℕ} {I : D.Columns}
      → Next tokens a i w
      → D.Member i (D.inner τ I)
      → Gives D reading nodes rules tokens τ (table.terminal a) (w, I, false) (success (w + 1, D.meet I (D.outer τ (D.one i)), false)) (tried w)
  unfolding trace
  terminal_clear n m = record { run = clauses.terminal_clear n m; shows = refl }

  pub terminal_aligned :
      {a i w : ℕ} {I : D.Columns}
      → Next tokens a i w
      → D.Member i I
      → Gives D reading nodes rules tokens τ (table.terminal a) (w, I, true) (success (w + 1, D.one i, false)) (tried w)
  unfolding trace
  terminal_aligned n m = record { run = clauses.terminal_aligned n m; shows = refl }

  pub terminal_fails :
      {a w : ℕ} {I : D.Columns} {b : Bool}
      → ((i : ℕ) → Next tokens a i w → Fits D τ i I b → ⊥)
      → Gives D reading nodes rules tokens τ (table.terminal a) (w, I, b) failure (tried w)
  unfolding trace
  terminal_fails h = record { run = clauses.terminal_fails h; shows = refl }

  pub rule :
      {x : ℕ} {s : State D.Columns} {o : Outcome D.Columns} {t : Trace}
      → Gives D reading nodes rules tokens τ (form nodes (stands_for rules x)) s o t
      → Gives D reading nodes rules tokens τ (table.rule x) s o (captured x s.0 o t)
  unfolding trace
  rule {x} {s} {o} d = record { run = clauses.rule d.run; shows = ap (captured x s.0 o) d.shows }

  pub sequence :
      {p q : ℕ} {s s' : State D.Columns} {o : Outcome D.Columns} {t u : Trace}
      → Gives D reading nodes rules tokens τ (form nodes p) s (success s') t
      → Gives D reading nodes rules tokens τ (form nodes q) s' o u
      → Gives D reading nodes rules tokens τ (table.sequence p q) s o (t then u)
  unfolding trace
  sequence d e = record { run = clauses.sequence d.run e.run; shows = ap₂ ◌then◌ d.shows e.shows }

  pub sequence_fails :
      {p q : ℕ} {s : State D.Columns} {t : Trace}
      → Gives D reading nodes rules tokens τ (form nodes p) s failure t
      → Gives D reading nodes rules tokens τ (table.sequence p q) s failure t
  unfolding trace
  sequence_fails d = record { run = clauses.sequence_fails d.run; shows = d.shows }

  pub choice_first :
      {p q : ℕ} {s s' : State D.Columns} {t : Trace}
      → Gives D reading nodes rules tokens τ (form nodes p) s (success s') t
      → Gives D reading nodes rules tokens τ (table.choice p q) s (success s') t
  unfolding trace
  choice_first d = record { run = clauses.choice_first d.run; shows = d.shows }

  pub choice_second :
      {p q : ℕ} {s : State D.Columns} {o : Outcome D.Columns} {t u : Trace}
      → Gives D reading nodes rules tokens τ (form nodes p) s failure t
      → Gives D reading nodes rules tokens τ (form nodes q) s o u
      → Gives D reading nodes rules tokens τ (table.choice p q) s o (dropped t then u)
  unfolding trace
  choice_second d e = record { run = clauses.choice_second d.run e.run; shows = ap₂ (λ (t u : Trace). dropped t then u) d.shows e.shows }

  pub not :
      {p : ℕ} {s : State D.Columns} {t : Trace}
      → Gives D reading nodes rules tokens τ (form nodes p) s failure t
      → Gives D reading nodes rules tokens τ (table.not p) s (success s) (dropped t)
  unfolding trace
  not d = record { run = clauses.not d.run; shows = ap dropped d.shows }

  pub not_fails :
      {p : ℕ} {s s' : State D.Columns} {t : Trace}
      → Gives D reading nodes rules tokens τ (form nodes p) s (success s') t
      → Gives D reading nodes rules tokens τ (table.not p) s failure (dropped t)
  unfolding trace
  not_fails d = record { run = clauses.not_fails d.run; shows = ap dropped d.shows }

  pub repeat_ends :
      {p : ℕ} {s : State D.Columns} {t : Trace}
      → Gives D reading nodes rules tokens τ (form nodes p) s failure t
      → Gives D reading nodes rules tokens τ (table.repeat p) s (success s) (dropped t)
  unfolding trace
  repeat_ends d = record { run = clauses.repeat_ends d.run; shows = ap dropped d.shows }

  pub repeat_again :
      {p : ℕ} {s s' : State D.Columns} {o : Outcome D.Columns} {t u : Trace}
      → Gives D reading nodes rules tokens τ (form nodes p) s (success s') t
      → Gives D reading nodes rules tokens τ (table.repeat p) s' o u
      → Gives D reading nodes rules tokens τ (table.repeat p) s o (t then u)
  unfolding trace
  repeat_again d e = record { run = clauses.repeat_again d.run e.run; shows = ap₂ ◌then◌ d.shows e.shows }

  pub indent :
      {p ρ w w' : ℕ} {I I' : D.Columns} {b b' : Bool} {t : Trace}
      → counts reading b ≡ true
      → Gives D reading nodes rules tokens τ (form nodes p) (w, D.inner ρ I, b) (success (w', I', b')) t
      → Gives D reading nodes rules tokens τ (table.indent p ρ) (w, I, b) (success (w', D.meet I (D.outer ρ I'), b')) t
  unfolding trace
  indent c d = record { run = clauses.indent c d.run; shows = d.shows }

  pub indent_fails :
      {p ρ w : ℕ} {I : D.Columns} {b : Bool} {t : Trace}
      → counts reading b ≡ true
      → Gives D reading nodes rules tokens τ (form nodes p) (w, D.inner ρ I, b) failure t
      → Gives D reading nodes rules tokens τ (table.indent p ρ) (w, I, b) failure t
  unfolding trace
  indent_fails c d = record { run = clauses.indent_fails c d.run; shows = d.shows }

  pub indent_through :
      {p ρ w : ℕ} {I : D.Columns} {b : Bool} {o : Outcome D.Columns} {t : Trace}
      → counts reading b ≡ false
      → Gives D reading nodes rules tokens τ (form nodes p) (w, I, b) o t
      → Gives D reading nodes rules tokens τ (table.indent p ρ) (w, I, b) o t
  unfolding trace
  indent_through c d = record { run = clauses.indent_through c d.run; shows = d.shows }

  pub position :
      {p σ : ℕ} {s : State D.Columns} {o : Outcome D.Columns} {t : Trace}
      → Gives D reading nodes rules tokens σ (form nodes p) s o t
      → Gives D reading nodes rules tokens τ (table.position p σ) s o t
  unfolding trace
  position d = record { run = clauses.position d.run; shows = d.shows }

  pub align :
      {p w w' : ℕ} {I I' : D.Columns} {b b' : Bool} {t : Trace}
      → Gives D reading nodes rules tokens τ (form nodes p) (w, I, true) (success (w', I', b')) t
      → Gives D reading nodes rules tokens τ (table.align p) (w, I, b) (success (w', I', handed_on reading b b')) t
  unfolding trace
  align d = record { run = clauses.align d.run; shows = d.shows }

  pub align_fails :
      {p w : ℕ} {I : D.Columns} {b : Bool} {t : Trace}
      → Gives D reading nodes rules tokens τ (form nodes p) (w, I, true) failure t
      → Gives D reading nodes rules tokens τ (table.align p) (w, I, b) failure t
  unfolding trace
  align_fails d = record { run = clauses.align_fails d.run; shows = d.shows }
