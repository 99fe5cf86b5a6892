-- The facts and well-formedness decided in rounds, each one use of the rules at every node.
use Rattle.std.specs.Prelude.{ℕ, zero, suc, Bool, false, List}
use Rattle.table.specs.Form.{form}
use Rattle.well_formed.specs.Facts.{Fact}
pub use Rattle.form_facts.specs.Rules.{succeeds}
unfoldable pub use Rattle.form_facts.specs.Rules.{gives, passes}

-- The facts of each node that k rounds find.
unfoldable pub known_after : List ℕ → List ℕ → ℕ → Fact → ℕ → Bool
known_after nodes rules zero x n = false
known_after nodes rules (suc k) x n = gives rules (known_after nodes rules k) (form nodes n) x

-- The nodes that k rounds find well formed.
unfoldable pub well_after : List ℕ → List ℕ → (ℕ → Bool) → ℕ → ℕ → Bool
well_after nodes rules may zero n = false
well_after nodes rules may (suc k) n = passes rules may (well_after nodes rules may k) (form nodes n)
