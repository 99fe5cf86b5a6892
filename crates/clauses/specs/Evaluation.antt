-- The outcome and the trace as a function: the ten clauses over two ends, computed. A bound on the depth of calls makes it
-- end on every grammar; for well-formed ones the bound is never met, and outcome and trace are those that the clauses give
-- (`Existence`, in `theorems`).
use Rattle.std.specs.Prelude.{ℕ, zero, suc, ◌+◌, ◌*◌, Bool, true, false, cond, ◌&&◌, List, ltb, eqb}
use Rattle.table.specs.Form.{Form, empty, terminal, rule, sequence, choice, not, repeat, indent, position}
use Rattle.table.specs.Form.{align, other, form, stands_for, node_count}
use Rattle.columns.specs.Intervals.{inner_ends, outer_ends, meet_ends, fits, after_token}
use Rattle.columns.specs.declared.Interval.{Interval}
use Rattle.columns.specs.declared.Reading.{Reading}
use Rattle.clauses.specs.Clauses.{Tokens, State, Outcome, success, failure, counts, handed_on}
use Rattle.clauses.specs.Trace.{Trace, silent, tried, ◌then◌, dropped, captured}

-- An outcome with its trace, or that the bound was met first.
pub data Result : Type 0 where
  ended : Outcome Interval → Trace → Result
  unfinished : Result

-- What follows a success, or a failure.
abbrev pub after : Result → (State Interval → Trace → Result) → (Trace → Result) → Result
after (ended (success s) t) next otherwise = next s t
after (ended failure t) next otherwise = otherwise t
after unfinished next otherwise = unfinished

-- A result behind a trace.
abbrev pub behind : Trace → Result → Result
behind t (ended o u) = ended o (t then u)
behind t unfinished = unfinished

-- What rule x from place w ends in, by what its node ends in.
abbrev pub ruled : ℕ → ℕ → Result → Result
ruled x w (ended o t) = ended o (captured x w o t)
ruled x w unfinished = unfinished

-- Whether clause 2 reads the token at the state's place as terminal a.
abbrev pub reads : Tokens → ℕ → ℕ → State Interval → Bool
reads tokens τ a s =
    ltb s.0 tokens.count
    && eqb (tokens.terminal s.0) a
    && fits s.2 τ s.1 (tokens.column s.0)

-- Clause 8, where indentation counts and where it does not, by a function for the child.
abbrev pub indented : (State Interval → Result) → Bool → ℕ → State Interval → Result
indented run true ρ s =
    after (run (s.0, inner_ends ρ s.1, s.2))
    (λ s' t. ended (success (s'.0, meet_ends s.1 (outer_ends ρ s'.1), s'.2)) t) (λ t. ended failure t)
indented run false ρ s = run s

-- The outcome in a result. One that met the bound may be anything, as no grammar that passes the check meets it
-- (`outcome_given`, in `theorems`); failure is the value that needs no state.
abbrev pub outcome_in : Result → Outcome Interval
outcome_in (ended o t) = o
outcome_in unfinished = failure

-- The trace in a result, likewise.
abbrev pub trace_in : Result → Trace
trace_in (ended o t) = t
trace_in unfinished = silent

module _ (reading : Reading) (nodes rules : List ℕ) (tokens : Tokens) where
  -- The clauses, in their order, by a function for what they call.
  abbrev pub step : (ℕ → Form → State Interval → Result) → ℕ → Form → State Interval → Result
  step run τ empty s = ended (success s) silent
  step run τ (terminal a) s =
      ended
      (cond (reads tokens τ a s)
      (success (s.0 + 1, after_token s.2 τ s.1 (tokens.column s.0), false)) failure) (tried s.0)
  step run τ (rule x) s = ruled x s.0 (run τ (form nodes (stands_for rules x)) s)
  step run τ (sequence p q) s =
      after (run τ (form nodes p) s) (λ s' t. behind t (run τ (form nodes q) s')) (λ t. ended failure t)
  step run τ (choice p q) s =
      after (run τ (form nodes p) s) (λ s' t. ended (success s') t) (λ t. behind (dropped t) (run τ (form nodes q) s))
  step run τ (not p) s =
      after (run τ (form nodes p) s) (λ s' t. ended failure (dropped t)) (λ t. ended (success s) (dropped t))
  step run τ (repeat p) s =
      after (run τ (form nodes p) s) (λ s' t. behind t (run τ (repeat p) s')) (λ t. ended (success s) (dropped t))
  step run τ (indent p ρ) s = indented (λ s'. run τ (form nodes p) s') (counts reading s.2) ρ s
  step run τ (position p σ) s = run σ (form nodes p) s
  step run τ (align p) s =
      after (run τ (form nodes p) (s.0, s.1, true))
      (λ s' t. ended (success (s'.0, s'.1, handed_on reading s.2 s'.2)) t) (λ t. ended failure t)
  step run τ other s = unfinished

  -- With calls at most so deep.
  unfoldable pub evaluate : ℕ → ℕ → Form → State Interval → Result
  evaluate zero τ f s = unfinished
  evaluate (suc depth) τ f s = step (λ τ' f' s'. evaluate depth τ' f' s') τ f s

  -- A depth that is enough for well-formed grammars: no call is within itself at the same place.
  abbrev pub enough : ℕ
  enough = (tokens.count + 1) * (node_count nodes + 1)

  -- The outcome of node n in mode τ from a state.
  unfoldable pub outcome_for : ℕ → ℕ → State Interval → Outcome Interval
  outcome_for τ n s = outcome_in (evaluate enough τ (form nodes n) s)

  -- Its trace.
  unfoldable pub trace_for : ℕ → ℕ → State Interval → Trace
  trace_for τ n s = trace_in (evaluate enough τ (form nodes n) s)
