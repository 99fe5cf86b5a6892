-- The facts of the check are true of runs: success at the same place, success further on and failure each have their fact,
-- in any column domain.
use Prim.Native.Nat.{ℕ, ◌≤◌, ◌<◌}
use mathlib.Core.Path.{◌≡◌, sym}
use mathlib.Core.List.{List}
use mathlib.Core.Logic.{⊎_elim}
use native.Mathlib.Nat.{eq-or-lt_of_le}
use native.Mathlib.Omega.{arith}
use Rattle.table.specs.Form.{Form}
use Rattle.columns.specs.Domain.{Domain}
use Rattle.columns.specs.declared.Reading.{Reading}
use Rattle.well_formed.specs.Facts as facts
use Rattle.well_formed.specs.Facts.{Fact, nothing, something, fails, Success, by_nothing, by_something, May}
use Rattle.clauses.specs.Clauses.{Tokens, State, Outcome, success, failure, Run, empty, terminal_clear}
use Rattle.clauses.specs.Clauses.{terminal_aligned, terminal_fails, rule, sequence, sequence_fails, choice_first}
use Rattle.clauses.specs.Clauses.{choice_second, not, not_fails, repeat_ends, repeat_again, indent, indent_fails}
use Rattle.clauses.specs.Clauses.{indent_through, position, align, align_fails}
use Rattle.theorems.proofs.Narrows.{onward}

-- What an outcome that began at place w shows.
pub data Shows {ℓ} {C : Type ℓ} (w : ℕ) : Outcome C → Fact → Type ℓ where
  at_once : {s : State C} → s.0 ≡ w → Shows w (success s) nothing
  further : {s : State C} → w < s.0 → Shows w (success s) something
  not_at_all : Shows w failure fails

module _ {ℓ κ} (D : Domain {ℓ, κ}) (reading : Reading) (nodes rules : List ℕ) (tokens : Tokens) where
  -- A success shows one of the two facts that are successes.
  success_shows : (w : ℕ) {s : State D.Columns} → w ≤ s.0 → (x : Fact) × Success x × Shows {C = D.Columns} w (success s) x
  success_shows w h = ⊎_elim (λ e. (nothing, by_nothing, at_once (sym e))) (λ l. (something, by_something, further l)) (eq-or-lt_of_le h)

  pub shown :
      {τ : ℕ} {f : Form} {s : State D.Columns} {o : Outcome D.Columns}
      → Run D reading nodes rules tokens τ f s o
      → (x : Fact)
      → Shows s.0 o x
      → May nodes rules f x
  shown empty nothing (at_once e) = facts.empty_nothing
  shown empty something (further l) = absurd (omega arith)
  shown (terminal_clear n m) nothing (at_once e) = absurd (omega arith)
  shown (terminal_clear n m) something (further l) = facts.terminal_something
  shown (terminal_aligned n m) nothing (at_once e) = absurd (omega arith)
  shown (terminal_aligned n m) something (further l) = facts.terminal_something
  shown (terminal_fails h) fails not_at_all = facts.terminal_fails
  shown (rule d) x h = facts.rule_child (shown d x h)
  shown (sequence {s' = s'} d e) nothing (at_once q) =
      let a = onward D reading nodes rules tokens d in
      let b = onward D reading nodes rules tokens e in
      facts.sequence_nothing (shown d nothing (at_once (omega arith))) (shown e nothing (at_once (omega arith)))
  shown (sequence {s = s} {s' = s'} d e) something (further l) =
      let a = onward D reading nodes rules tokens d in
      let b = onward D reading nodes rules tokens e in
      ⊎_elim
      (λ q. facts.sequence_second by_nothing (shown d nothing (at_once (sym q))) (shown e something (further (omega arith))))
      (λ k. let y = success_shows s'.0 b in facts.sequence_first (shown d something (further k)) y.1 (shown e y.0 y.2))
      (eq-or-lt_of_le a)
  shown (sequence {s = s} d e) fails not_at_all =
      let y = success_shows s.0 (onward D reading nodes rules tokens d) in
      facts.sequence_then_fails y.1 (shown d y.0 y.2) (shown e fails not_at_all)
  shown (sequence_fails d) fails not_at_all = facts.sequence_fails (shown d fails not_at_all)
  shown (choice_first d) nothing (at_once e) = facts.choice_first by_nothing (shown d nothing (at_once e))
  shown (choice_first d) something (further l) = facts.choice_first by_something (shown d something (further l))
  shown (choice_second d e) x h = facts.choice_second (shown d fails not_at_all) (shown e x h)
  shown (not d) nothing (at_once e) = facts.not_nothing (shown d fails not_at_all)
  shown (not d) something (further l) = absurd (omega arith)
  shown (not_fails {s = s} d) fails not_at_all = let y = success_shows s.0 (onward D reading nodes rules tokens d) in facts.not_fails y.1 (shown d y.0 y.2)
  shown (repeat_ends d) nothing (at_once e) = facts.repeat_nothing (shown d fails not_at_all)
  shown (repeat_ends d) something (further l) = absurd (omega arith)
  shown (repeat_again d e) nothing (at_once q) =
      let a = onward D reading nodes rules tokens d in
      let b = onward D reading nodes rules tokens e in
      shown e nothing (at_once (omega arith))
  shown (repeat_again d e) something (further l) =
      ⊎_elim (λ q. shown e something (further (omega arith))) (λ k. facts.repeat_something (shown d something (further k))) (eq-or-lt_of_le (onward D reading nodes rules tokens d))
  shown (repeat_again d e) fails not_at_all = shown e fails not_at_all
  shown (indent c d) nothing (at_once e) = facts.indent_child (shown d nothing (at_once e))
  shown (indent c d) something (further l) = facts.indent_child (shown d something (further l))
  shown (indent_fails c d) fails not_at_all = facts.indent_child (shown d fails not_at_all)
  shown (indent_through c d) x h = facts.indent_child (shown d x h)
  shown (position d) x h = facts.position_child (shown d x h)
  shown (align d) nothing (at_once e) = facts.align_child (shown d nothing (at_once e))
  shown (align d) something (further l) = facts.align_child (shown d something (further l))
  shown (align_fails d) fails not_at_all = facts.align_child (shown d fails not_at_all)
  shown (empty {τ = τ} {s = s}) fails h = elim h [ ]
  shown (terminal_clear {τ = τ} {a = a} {i = i} {w = w} {I = I} n m) fails h = elim h [ ]
  shown (terminal_aligned {τ = τ} {a = a} {i = i} {w = w} {I = I} n m) fails h = elim h [ ]
  shown (terminal_fails {τ = τ} {a = a} {w = w} {I = I} {b = b} h) nothing x16 = elim x16 [ ]
  shown (terminal_fails {τ = τ} {a = a} {w = w} {I = I} {b = b} h) something x17 = elim x17 [ ]
  shown (sequence_fails {τ = τ} {p = p} {q = q} {s = s} d) nothing h = elim h [ ]
  shown (sequence_fails {τ = τ} {p = p} {q = q} {s = s} d) something h = elim h [ ]
  shown (choice_first {τ = τ} {p = p} {q = q} {s = s} d) fails h = elim h [ ]
  shown (not {τ = τ} {p = p} {s = s} d) fails h = elim h [ ]
  shown (not_fails {τ = τ} {p = p} {s = s} d) nothing h = elim h [ ]
  shown (not_fails {τ = τ} {p = p} {s = s} d) something h = elim h [ ]
  shown (repeat_ends {τ = τ} {p = p} {s = s} d) fails h = elim h [ ]
  shown (indent {τ = τ} {p = p} {ρ = ρ} {w = w} {I = I} {b = b} c d) fails h = elim h [ ]
  shown (indent_fails {τ = τ} {p = p} {ρ = ρ} {w = w} {I = I} {b = b} c d) nothing h = elim h [ ]
  shown (indent_fails {τ = τ} {p = p} {ρ = ρ} {w = w} {I = I} {b = b} c d) something h = elim h [ ]
  shown (align {τ = τ} {p = p} {w = w} {I = I} {b = b} d) fails h = elim h [ ]
  shown (align_fails {τ = τ} {p = p} {w = w} {I = I} {b = b} d) nothing h = elim h [ ]
  shown (align_fails {τ = τ} {p = p} {w = w} {I = I} {b = b} d) something h = elim h [ ]
