-- The ends in a run: after it neither passes the higher of where they began and the last column.
use Prim.Native.Nat.{ℕ, ◌+◌, ◌≤◌, max}
use mathlib.Core.List.{List}
use native.Mathlib.Omega.{arith}
use Rattle.table.specs.Form.{Form}
use Rattle.columns.specs.Intervals.{ends, only}
use Rattle.columns.specs.InternalHighest.{highest, rise}
use Rattle.columns.proofs.HighestLaws.{inner_high, leave_high}
use Rattle.columns.specs.declared.Interval.{Interval}
use Rattle.columns.specs.declared.Reading.{Reading}
use Rattle.clauses.specs.Clauses.{Tokens, State, success, Run, empty, terminal_clear, terminal_aligned, rule}
use Rattle.clauses.specs.Clauses.{sequence, choice_first, choice_second, not, repeat_ends, repeat_again, indent}
use Rattle.clauses.specs.Clauses.{indent_through, position, align}

-- A bound that was raised to m is not raised by m again.
twice : {k : ℕ} (b m : ℕ) → k ≤ max (max b m) m → k ≤ max b m
twice b m h = omega arith

module _ (reading : Reading) (nodes rules : List ℕ) (tokens : Tokens) (last : ℕ) (columns : (w : ℕ) → tokens.column w ≤ last) where
  pub ends_under :
      {τ : ℕ} {f : Form} {s s' : State Interval} (b : ℕ)
      → highest s.1 ≤ b
      → Run ends reading nodes rules tokens τ f s (success s')
      → highest s'.1 ≤ max b last
  ends_under b l empty = omega arith
  ends_under b l (terminal_clear {τ = τ} {i = i} {w = w} {I = I} n m) = leave_high τ b last I (only i) l (let h = columns w in let e = n.column in omega arith)
  ends_under b l (terminal_aligned {w = w} n m) = let h = columns w in let e = n.column in omega arith
  ends_under b l (rule d) = ends_under b l d
  ends_under b l (sequence d e) = twice b last (ends_under (max b last) (ends_under b l d) e)
  ends_under b l (choice_first d) = ends_under b l d
  ends_under b l (choice_second d e) = ends_under b l e
  ends_under b l (not d) = omega arith
  ends_under b l (repeat_ends d) = omega arith
  ends_under b l (repeat_again d e) = twice b last (ends_under (max b last) (ends_under b l d) e)
  ends_under b l (indent {ρ = ρ} {I = I} {I' = I'} c d) = leave_high ρ b last I I' l (ends_under (b + rise ρ) (let h = inner_high ρ I in omega arith) d)
  ends_under b l (indent_through c d) = ends_under b l d
  ends_under b l (position d) = ends_under b l d
  ends_under b l (align d) = ends_under b l d
