-- An outcome exists for every grammar that passes the check, token list, start and reading: the evaluation ends within its
-- bound on depth. By tokens left, then by rank.
use Prim.Native.Nat.{ℕ, zero, suc, ◌+◌, ◌*◌, ◌-◌, ◌≤◌, ◌<◌}
use mathlib.Core.Path.{◌≡◌, refl, sym}
use mathlib.Core.Bool.{Bool, true, false}
use mathlib.Core.List.{List}
use mathlib.Core.Logic.{⊎_elim}
use native.Mathlib.Nat.{eq-or-lt_of_le, mul-le-mul_right, suc-mul}
use native.Mathlib.Omega.{arith}
use Rattle.table.specs.Answer.{given}
use Rattle.table.specs.Checks.{table_answer}
use Rattle.table.specs.Form as table
use Rattle.table.specs.Form.{Form, form, node_count, stands_for}
use Rattle.table.specs.InternalInside.{Inside}
use Rattle.table.proofs.Inside.{inside_table}
use Rattle.columns.specs.Intervals.{ends, inner_ends}
use Rattle.columns.specs.declared.Interval.{Interval}
use Rattle.columns.specs.declared.Reading.{Reading}
use Rattle.well_formed.specs.Facts.{nothing}
use Rattle.well_formed.specs.WellFormed.{Passes}
use Rattle.well_formed.specs.InternalRank.{Enters, enters_rule, enters_first, enters_second, enters_choice}
use Rattle.well_formed.specs.InternalRank.{enters_other, enters_not, enters_repeat, enters_indent, enters_position}
use Rattle.well_formed.specs.InternalRank.{enters_align, rank}
use Rattle.well_formed.proofs.RankLaws.{rank_falls, rank_most, repeat_reads}
use Rattle.clauses.specs.Clauses.{Tokens, State, Outcome, success, failure, counts, Run}
use Rattle.clauses.specs.Trace.{Trace, silent, tried, ◌then◌, dropped, captured, Gives}
use Rattle.clauses.specs.Evaluation.{Result, ended, unfinished, after, behind, ruled, indented, step, evaluate, enough}
use Rattle.clauses.specs.Evaluation.{outcome_for, trace_for}
use Rattle.theorems.proofs.Narrows.{onward, within}
use Rattle.theorems.proofs.ShownFacts.{shown, at_once}
use Rattle.clauses.proofs.Sound.{evaluate_sound}

-- A result that is an outcome.
record Ended (r : Result) : Type 0 where
  pub outcome : Outcome Interval
  pub shows : Trace
  pub is : r ≡ ended outcome shows

this : (o : Outcome Interval) (t : Trace) → Ended (ended o t)
this o t = record { outcome = o; shows = t; is = refl }

not_unfinished : {A : Type 0} → Ended unfinished → A
not_unfinished e = absurd (let q = e.is in let z : ◌≡◌ {A = ℕ} 0 1 = cc in omega arith)

-- After a result that is an outcome.
after_ended :
    (r : Result) (next : State Interval → Trace → Result) (otherwise : Trace → Result)
    → Ended r
    → ((s : State Interval) (t : Trace) → r ≡ ended (success s) t → Ended (next s t))
    → ((t : Trace) → Ended (otherwise t))
    → Ended (after r next otherwise)
after_ended (ended (success s) t) next otherwise e k l = k s t refl
after_ended (ended failure t) next otherwise e k l = l t
after_ended unfinished next otherwise e k l = not_unfinished e

behind_ended : (t : Trace) (r : Result) → Ended r → Ended (behind t r)
behind_ended t (ended o u) e = this o (t then u)
behind_ended t unfinished e = not_unfinished e

ruled_ended : (x w : ℕ) (r : Result) → Ended r → Ended (ruled x w r)
ruled_ended x w (ended o t) e = this o (captured x w o t)
ruled_ended x w unfinished e = not_unfinished e

-- One token fewer outweighs any rank, where no rank is 0 or where one more than the most counts.
pub outweighs : (left left' most r r' : ℕ) → left' < left → r' ≤ most → 1 ≤ r → left' * most + r' < left * most + r
outweighs left left' most r r' h k l =
    let x : suc left' * most ≤ left * most = mul-le-mul_right most h in
    let y = suc-mul left' most in
    omega arith

pub weighs_less : (left left' most r r' : ℕ) → left' < left → r' ≤ most → left' * (most + 1) + r' < left * (most + 1) + r
weighs_less left left' most r r' h k = let x = outweighs left left' (most + 1) (r + 1) (r' + 1) h (omega arith) (omega arith) in omega arith

module _ (reading : Reading) (nodes rules : List ℕ) (tokens : Tokens) (passing : table_answer nodes rules ≡ given tt) (every_well : Passes nodes rules) where
  -- Tokens left, then rank.
  abbrev weight : ℕ → ℕ → ℕ
  weight w n = (tokens.count - w) * (node_count nodes + 1) + rank nodes rules n

  abbrev call : ℕ → ℕ → Form → State Interval → Result
  call depth τ f s = evaluate reading nodes rules tokens depth τ f s

  -- Node n at depth k + 1, where every call that weighs less ends at depth k.
  module _ (k n : ℕ) (h : n < node_count nodes)
      (ends_at : (m τ : ℕ) (s : State Interval) → m < node_count nodes → s.0 ≤ tokens.count → weight s.0 m < k → Ended (call k τ (form nodes m) s))
      (τ : ℕ) (s : State Interval) (b : s.0 ≤ tokens.count) (heavy : weight s.0 n < suc k) where
    inside : (f : Form) → form nodes n ≡ f → Inside rules (node_count nodes) f
    inside f e = rw e at (inside_table nodes rules passing n h)

    -- A child that is entered at this place.
    child :
        (f : Form)
        → form nodes n ≡ f
        → (c σ : ℕ) (t : State Interval)
        → t.0 ≡ s.0
        → c < node_count nodes
        → Enters nodes rules f c
        → Ended (call k σ (form nodes c) t)
    child f e c σ t q l enter = ends_at c σ t l (omega arith) (let r = rank_falls nodes rules passing every_well n c h (rw e enter) in (rw q (omega arith)))

    -- A child that is entered after a token was read.
    later : (c : ℕ) (t : State Interval) → c < node_count nodes → t.0 ≤ tokens.count → s.0 < t.0 → Ended (call k τ (form nodes c) t)
    later c t l i e =
        ends_at c τ t l i
        (let x = weighs_less (tokens.count - s.0) (tokens.count - t.0) (node_count nodes) (rank nodes rules n)
        (rank nodes rules c) (omega arith) (rank_most nodes rules passing every_well c l) in omega arith)

    -- What a first child derived.
    derived :
        (σ : ℕ) (f : Form) (t t' : State Interval) (u : Trace)
        → call k σ f t ≡ ended (success t') u
        → Run ends reading nodes rules tokens σ f t (success t')
    derived σ f t t' u e = (evaluate_sound reading nodes rules tokens k σ f t (success t') u e).run

    -- An indent, whether it counts or not.
    by_counts :
        (p ρ : ℕ) (c : Bool)
        → ((t : State Interval) → t.0 ≡ s.0 → Ended (call k τ (form nodes p) t))
        → Ended (indented (λ t. call k τ (form nodes p) t) c ρ s)
    by_counts p ρ true h = after_ended (call k τ (form nodes p) (s.0, inner_ends ρ s.1, s.2)) _ _ (h _ refl) (λ t u r. this _ u) (λ u. this failure u)
    by_counts p ρ false h = h s refl

    by_form : (f : Form) → form nodes n ≡ f → Ended (step reading nodes rules tokens (λ τ' f' s'. call k τ' f' s') τ f s)
    by_form table.empty e = this (success s) silent
    by_form (table.terminal a) e = this _ (tried s.0)
    by_form (table.rule x) e = ruled_ended x s.0 _ (child _ e (stands_for rules x) τ s refl (inside _ e) enters_rule)
    by_form (table.sequence p q) e =
        after_ended (call k τ (form nodes p) s) _ _ (child _ e p τ s refl (inside _ e).0 enters_first)
        (λ t u r.
        let d = derived τ (form nodes p) s t u r in
        behind_ended u _
        (⊎_elim
        (λ i. child _ e q τ t (sym i) (inside _ e).1 (enters_second (shown ends reading nodes rules tokens d nothing (at_once (sym i)))))
        (λ l. later q t (inside _ e).1 (within ends reading nodes rules tokens b d) l)
        (eq-or-lt_of_le (onward ends reading nodes rules tokens d))))
        (λ u. this failure u)
    by_form (table.choice p q) e =
        after_ended (call k τ (form nodes p) s) _ _ (child _ e p τ s refl (inside _ e).0 enters_choice)
        (λ t u r. this (success t) u) (λ u. behind_ended (dropped u) _ (child _ e q τ s refl (inside _ e).1 enters_other))
    by_form (table.not p) e =
        after_ended (call k τ (form nodes p) s) _ _ (child _ e p τ s refl (inside _ e) enters_not)
        (λ t u r. this failure (dropped u)) (λ u. this (success s) (dropped u))
    by_form (table.repeat p) e =
        after_ended (call k τ (form nodes p) s) _ _ (child _ e p τ s refl (inside _ e) enters_repeat)
        (λ t u r.
        let d = derived τ (form nodes p) s t u r in
        behind_ended u (call k τ (table.repeat p) t)
        (⊎_elim
        (λ i. absurd (repeat_reads nodes rules passing every_well n p h e (shown ends reading nodes rules tokens d nothing (at_once (sym i)))))
        (λ l. rw (← e) (later n t h (within ends reading nodes rules tokens b d) l))
        (eq-or-lt_of_le (onward ends reading nodes rules tokens d))))
        (λ u. this (success s) (dropped u))
    by_form (table.indent p ρ) e = by_counts p ρ (counts reading s.2) (λ t q. child _ e p τ t q (inside _ e) enters_indent)
    by_form (table.position p σ) e = child _ e p σ s refl (inside _ e) enters_position
    by_form (table.align p) e =
        after_ended (call k τ (form nodes p) (s.0, s.1, true)) _ _ (child _ e p τ (s.0, s.1, true) refl (inside _ e) enters_align)
        (λ t u r. this _ u) (λ u. this failure u)
    by_form table.other e = absurd (inside _ e)

  evaluates : (k n τ : ℕ) (s : State Interval) → n < node_count nodes → s.0 ≤ tokens.count → weight s.0 n < k → Ended (call k τ (form nodes n) s)
  unfolding evaluate
  evaluates zero n τ s h b heavy = absurd (omega arith)
  evaluates (suc k) n τ s h b heavy = by_form k n h (λ m σ t. evaluates k m σ t) τ s b heavy (form nodes n) refl

  -- Nothing weighs more than the bound.
  light : (n w : ℕ) → n < node_count nodes → weight w n < enough reading nodes rules tokens
  light n w h =
      let x = weighs_less (tokens.count + 1) (tokens.count - w) (node_count nodes) 0 (rank nodes rules n) (omega arith) (rank_most nodes rules passing every_well n h) in
      omega arith

  -- The outcome and the trace that are computed are what the clauses give: an outcome exists.
  pub outcome_given :
      (τ n : ℕ) (s : State Interval)
      → n < node_count nodes
      → s.0 ≤ tokens.count
      → Gives ends reading nodes rules tokens τ (form nodes n) s (outcome_for reading nodes rules tokens τ n s) (trace_for reading nodes rules tokens τ n s)
  unfolding outcome_for trace_for
  outcome_given τ n s h b =
      let r = evaluates (enough reading nodes rules tokens) n τ s h b (light n s.0 h) in
      evaluate_sound reading nodes rules tokens (enough reading nodes rules tokens) τ (form nodes n) s (outcome_for reading nodes rules tokens τ n s)
      (trace_for reading nodes rules tokens τ n s) (rw r.is refl)
