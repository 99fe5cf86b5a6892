-- `run_limits::any_position` meets its contract.
use Rattle.std.proofs.Common.{◌≡◌, ℕ, Bool, true, not, List, eqb}
use Rattle.table.specs.Every.{every}
use Rattle.table.specs.Form.{kind_of}
use Rattle.run_limits.proofs.any_position.Given as goal

-- Whether node n is no position.
abbrev pub no_position : List ℕ → ℕ → Bool
no_position nodes n = not (eqb (kind_of nodes n) 8)

abbrev pub invariant-loop-n : goal.invariant-loop-n
invariant-loop-n l = every l.n (no_position l.nodes) ≡ true
