-- What the check answers (01, "Well formed" and "Turned-down calls", numbers 3, 4, 5 and 7), and what its verdict means.
use Rattle.std.specs.Prelude.{ℕ, zero, suc, ◌*◌, ◌≡◌, Result, Bool, cond, List, ◌↔◌}
use Rattle.table.specs.Answer.{Answer, given, refused_at, and_then}
use Rattle.table.specs.Form.{node_count}
use Rattle.table.specs.Checks.{table_answer}
use Rattle.well_formed.specs.Facts.{nothing}
use Rattle.well_formed.specs.WellFormed as least
use Rattle.well_formed.specs.Rounds.{known_after, well_after}
use Rattle.table.specs.Refusals.{answer_by}
use Rattle.table.specs.declared.refusals.Refusal.{Refusal}

-- Whether node n may succeed reading nothing, by as many rounds as settle it.
unfoldable pub may_nothing : List ℕ → List ℕ → ℕ → Bool
may_nothing nodes rules n = known_after nodes rules (node_count nodes * 3) nothing n

-- Whether it is well formed, by as many rounds as settle that.
unfoldable pub is_well : List ℕ → List ℕ → ℕ → Bool
is_well nodes rules n = well_after nodes rules (may_nothing nodes rules) (node_count nodes) n

-- "The grammar passes if every node does ..": so many nodes from n on, in rising order.
unfoldable pub verdict_from : (ℕ → Bool) → ℕ → ℕ → Answer Unit
verdict_from well n zero = given tt
verdict_from well n (suc left) = cond (well n) (verdict_from well (suc n) left) (refused_at 7 n)

-- 3, 4 and 5 first, then 7.
unfoldable pub check_answer : List ℕ → List ℕ → Answer Unit
check_answer nodes rules = and_then (table_answer nodes rules) (verdict_from (is_well nodes rules) 0 (node_count nodes))

-- What an answer says of a table and its rules by the least relations.
pub record Means (nodes rules : List ℕ) (answer : Answer Unit) : Type 0 where
  -- It passes exactly if the table passes 3, 4 and 5 and every node is well formed.
  pub passes : (answer ≡ given tt) ↔ ((table_answer nodes rules ≡ given tt) × least.Passes nodes rules)
  -- It is 7 with node n exactly if the table passes 3, 4 and 5, n is not well formed and every lower node is.
  pub named :
      (n : ℕ)
      → (answer ≡ refused_at 7 n) ↔ ((table_answer nodes rules ≡ given tt) × least.LowestBad nodes rules n)

-- The answer of a check that gives nothing.
abbrev pub numbers : Result Unit Refusal → Answer Unit
numbers = answer_by (λ x. x)
