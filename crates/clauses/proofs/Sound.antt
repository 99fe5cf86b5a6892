-- What is computed is derived: an outcome that the evaluation ends in is one that the clauses over two ends give, and its
-- trace is the derivation's.
use Prim.Native.Nat.{ℕ, zero, suc, ◌+◌}
use mathlib.Core.Path.{◌≡◌, refl, sym, subst, subst₂, ◌∙◌}
use mathlib.Core.Bool.{Bool, true, false, cond, ◌&&◌, true≢false}
use mathlib.Core.List.{List}
use lib.Dec.{ltb, eqb}
use native.Mathlib.Omega.{arith}
use borrow.Author.Tests.{ltb-true, eqb-true, lt-ltb, eq-eqb}
use Rattle.table.specs.Form as table
use Rattle.table.specs.Form.{Form, form}
use Rattle.table.proofs.Every.{and_left, and_right}
use Rattle.columns.specs.Intervals.{ends, inner_ends, fits, after_token}
use Rattle.columns.proofs.EndLaws.{lies_true}
use Rattle.columns.specs.declared.Interval.{Interval}
use Rattle.columns.specs.declared.Reading.{Reading}
use Rattle.clauses.specs.Clauses as clauses
use Rattle.clauses.specs.Clauses.{Tokens, Next, State, Outcome, success, failure, Fits, clear, aligned, counts, Run}
use Rattle.clauses.specs.Trace.{Trace, tried, ◌then◌, dropped, captured, trace, Gives}
use Rattle.clauses.specs.Evaluation.{Result, ended, unfinished, after, behind, ruled, reads, indented, step, evaluate}

never : {o : Outcome Interval} {t : Trace} → unfinished ≡ ended o t → ⊥
never e = let z : ◌≡◌ {A = ℕ} 0 1 = cc in omega arith

module _ (reading : Reading) (nodes rules : List ℕ) (tokens : Tokens) where
  abbrev Given : ℕ → Form → State Interval → Outcome Interval → Trace → Type 0
  Given τ f s o t = Gives ends reading nodes rules tokens τ f s o t

  -- The outcome and the trace that a result has are given.
  record Derived (τ : ℕ) (f : Form) (s : State Interval) (r : Result) : Type 0 where
    pub gives : (o : Outcome Interval) (t : Trace) → r ≡ ended o t → Given τ f s o t

  is : {τ : ℕ} {f : Form} {s : State Interval} {o : Outcome Interval} {t : Trace} → Given τ f s o t → Derived τ f s (ended o t)
  is {τ} {f} {s} {o} {t} d =
      record { gives = λ p u e. let q : o ≡ p = cc in let r : t ≡ u = cc in subst₂ (λ (v : Outcome Interval) (w : Trace). Given τ f s v w) q r d }

  unended : {τ : ℕ} {f : Form} {s : State Interval} → Derived τ f s unfinished
  unended = record { gives = λ o t e. absurd (never e) }

  -- The trace of a run over two ends.
  abbrev shown : {τ : ℕ} {f : Form} {s : State Interval} {o : Outcome Interval} → Run ends reading nodes rules tokens τ f s o → Trace
  shown d = trace ends reading nodes rules tokens d

  derived : {τ : ℕ} {f : Form} {s : State Interval} {o : Outcome Interval} (d : Run ends reading nodes rules tokens τ f s o) → Derived τ f s (ended o (shown d))
  derived d = is (record { run = d; shows = refl })

  -- What holds of the trace of every run to an outcome holds of one that is given.
  by_run :
      {τ : ℕ} {f : Form} {s : State Interval} {o : Outcome Interval} {t : Trace} (P : Trace → Type 0)
      → Given τ f s o t
      → ((d : Run ends reading nodes rules tokens τ f s o) → P (shown d))
      → P t
  by_run P g k = subst P g.shows (k g.run)

  -- What is made of one run: the same outcome and trace, a rule's, and what comes behind a trace.
  whole :
      {τ τ' : ℕ} {f g : Form} {s s' : State Interval} (r : Result)
      → Derived τ f s r
      → ((o : Outcome Interval) (d : Run ends reading nodes rules tokens τ f s o) → Derived τ' g s' (ended o (shown d)))
      → Derived τ' g s' r
  whole {τ' = τ'} {g = g} {s' = s'} (ended o t) d k = by_run (λ (u : Trace). Derived τ' g s' (ended o u)) (d.gives o t refl) (k o)
  whole unfinished d k = unended

  ruled_derived :
      {τ τ' x : ℕ} {f g : Form} {s s' : State Interval} {w : ℕ} (r : Result)
      → Derived τ f s r
      → ((o : Outcome Interval) (d : Run ends reading nodes rules tokens τ f s o) → Derived τ' g s' (ended o (captured x w o (shown d))))
      → Derived τ' g s' (ruled x w r)
  ruled_derived {τ' = τ'} {x = x} {g = g} {s' = s'} {w = w} (ended o t) d k =
      by_run (λ (u : Trace). Derived τ' g s' (ended o (captured x w o u))) (d.gives o t refl) (k o)
  ruled_derived unfinished d k = unended

  behind_derived :
      {τ τ' : ℕ} {f g : Form} {s s' : State Interval} (t : Trace) (r : Result)
      → Derived τ f s r
      → ((o : Outcome Interval) (d : Run ends reading nodes rules tokens τ f s o) → Derived τ' g s' (ended o (t then shown d)))
      → Derived τ' g s' (behind t r)
  behind_derived {τ' = τ'} {g = g} {s' = s'} t (ended o u) d k = by_run (λ (v : Trace). Derived τ' g s' (ended o (t then v))) (d.gives o u refl) (k o)
  behind_derived t unfinished d k = unended

  -- After a first run.
  after_derived :
      {τ τ' : ℕ} {f g : Form} {s s' : State Interval} (r : Result) (next : State Interval → Trace → Result)
      (otherwise : Trace → Result)
      → Derived τ f s r
      → ((u : State Interval) (d : Run ends reading nodes rules tokens τ f s (success u)) → Derived τ' g s' (next u (shown d)))
      → ((d : Run ends reading nodes rules tokens τ f s failure) → Derived τ' g s' (otherwise (shown d)))
      → Derived τ' g s' (after r next otherwise)
  after_derived {τ' = τ'} {g = g} {s' = s'} (ended (success u) t) next otherwise d k l =
      by_run (λ (v : Trace). Derived τ' g s' (next u v)) (d.gives (success u) t refl) (k u)
  after_derived {τ' = τ'} {g = g} {s' = s'} (ended failure t) next otherwise d k l =
      by_run (λ (v : Trace). Derived τ' g s' (otherwise v)) (d.gives failure t refl) l
  after_derived unfinished next otherwise d k l = unended

  -- Clause 2.
  fitting : {τ i : ℕ} (b : Bool) (I : Interval) → fits b τ I i ≡ true → Fits ends τ i I b
  fitting {τ} {i} true I e = aligned ((lies_true i I).0 e)
  fitting {τ} {i} false I e = clear ((lies_true i (inner_ends τ I)).0 e)

  fits_true : {τ i : ℕ} {b : Bool} {I : Interval} → Fits ends τ i I b → fits b τ I i ≡ true
  fits_true {τ} {i} {I = I} (clear m) = (lies_true i (inner_ends τ I)).1 m
  fits_true {τ} {i} {I = I} (aligned m) = (lies_true i I).1 m

  read :
      {τ a i w : ℕ} {I : Interval} {b : Bool}
      → Next tokens a i w
      → Fits ends τ i I b
      → Given τ (table.terminal a) (w, I, b) (success (w + 1, after_token b τ I i, false)) (tried w)
  unfolding trace
  read n (clear m) = record { run = clauses.terminal_clear n m; shows = refl }
  read n (aligned m) = record { run = clauses.terminal_aligned n m; shows = refl }

  pub terminal_read : (τ a w : ℕ) (I : Interval) (b : Bool) → reads tokens τ a (w, I, b) ≡ true
      → Given τ (table.terminal a) (w, I, b) (success (w + 1, after_token b τ I (tokens.column w), false)) (tried w)
  terminal_read τ a w I b e =
      let x = ltb w tokens.count in
      let y = eqb (tokens.terminal w) a in
      let z = fits b τ I (tokens.column w) in
      let p = and_left (x && y) z e in
      read
      (record {
        there = ltb-true w tokens.count (and_left x y p);
        terminal = eqb-true (tokens.terminal w) a (and_right x y p);
        column = refl;
      }) (fitting b I (and_right (x && y) z e))

  pub terminal_unread : (τ a w : ℕ) (I : Interval) (b : Bool) → reads tokens τ a (w, I, b) ≡ false → Given τ (table.terminal a) (w, I, b) failure (tried w)
  unfolding trace
  terminal_unread τ a w I b e = record { run = clauses.terminal_fails not_read; shows = refl }
    where
      not_read : (i : ℕ) → Next tokens a i w → Fits ends τ i I b → ⊥
      not_read i n m =
          let h : fits b τ I (tokens.column w) ≡ true = rw n.column (fits_true m) in
          true≢false (sym (rw (lt-ltb w tokens.count n.there, eq-eqb (tokens.terminal w) a n.terminal, h) refl) ∙ e)

  terminal_derived : (τ a w : ℕ) (I : Interval) (b : Bool) (t : Bool) → reads tokens τ a (w, I, b) ≡ t
      → Derived τ (table.terminal a) (w, I, b) (ended (cond t (success (w + 1, after_token b τ I (tokens.column w), false)) failure) (tried w))
  terminal_derived τ a w I b true e = is (terminal_read τ a w I b e)
  terminal_derived τ a w I b false e = is (terminal_unread τ a w I b e)

  module _ (run : ℕ → Form → State Interval → Result) (h : (τ : ℕ) (f : Form) (s : State Interval) → Derived τ f s (run τ f s)) where
    indented_derived : (τ p ρ w : ℕ) (I : Interval) (b c : Bool) → counts reading b ≡ c
        → Derived τ (table.indent p ρ) (w, I, b) (indented (λ s'. run τ (form nodes p) s') c ρ (w, I, b))
    unfolding trace
    indented_derived τ p ρ w I b true e =
        after_derived _ _ _ (h τ _ _) (λ s' d. derived (clauses.indent e d)) (λ d. derived (clauses.indent_fails e d))
    indented_derived τ p ρ w I b false e = whole _ (h τ _ _) (λ o d. derived (clauses.indent_through e d))

    step_derived : (τ : ℕ) (f : Form) (s : State Interval) → Derived τ f s (step reading nodes rules tokens run τ f s)
    unfolding trace
    step_derived τ table.empty s = derived clauses.empty
    step_derived τ (table.terminal a) (w, I, b) = terminal_derived τ a w I b (reads tokens τ a (w, I, b)) refl
    step_derived τ (table.rule x) s = ruled_derived _ (h τ _ s) (λ o d. derived (clauses.rule d))
    step_derived τ (table.sequence p q) s =
        after_derived _ _ _ (h τ _ _) (λ s' d. behind_derived _ _ (h τ _ _) (λ o e. derived (clauses.sequence d e))) (λ d. derived (clauses.sequence_fails d))
    step_derived τ (table.choice p q) s =
        after_derived _ _ _ (h τ _ _) (λ s' d. derived (clauses.choice_first d)) (λ d. behind_derived (dropped (shown d)) _ (h τ _ _) (λ o e. derived (clauses.choice_second d e)))
    step_derived τ (table.not p) s = after_derived _ _ _ (h τ _ _) (λ s' d. derived (clauses.not_fails d)) (λ d. derived (clauses.not d))
    step_derived τ (table.repeat p) s =
        after_derived _ _ _ (h τ _ _) (λ s' d. behind_derived _ _ (h τ _ _) (λ o e. derived (clauses.repeat_again d e))) (λ d. derived (clauses.repeat_ends d))
    step_derived τ (table.indent p ρ) (w, I, b) = indented_derived τ p ρ w I b (counts reading b) refl
    step_derived τ (table.position p σ) s = whole _ (h σ _ _) (λ o d. derived (clauses.position d))
    step_derived τ (table.align p) (w, I, b) = after_derived _ _ _ (h τ _ _) (λ s' d. derived (clauses.align d)) (λ d. derived (clauses.align_fails d))
    step_derived τ table.other s = unended

  evaluate_derived : (depth τ : ℕ) (f : Form) (s : State Interval) → Derived τ f s (evaluate reading nodes rules tokens depth τ f s)
  unfolding evaluate
  evaluate_derived zero τ f s = unended
  evaluate_derived (suc depth) τ f s = step_derived (λ τ' f' s'. evaluate reading nodes rules tokens depth τ' f' s') (λ τ' f' s'. evaluate_derived depth τ' f' s') τ f s

  -- The theorem.
  pub evaluate_sound :
      (depth τ : ℕ) (f : Form) (s : State Interval) (o : Outcome Interval) (t : Trace)
      → evaluate reading nodes rules tokens depth τ f s ≡ ended o t
      → Given τ f s o t
  evaluate_sound depth τ f s o t e = (evaluate_derived depth τ f s).gives o t e
