-- What is said of all that a slice remembers. No public promise rests on this file.
use Rattle.std.specs.Prelude.{ℕ, ◌≡◌, Bool, Some, List}
use Rattle.columns.specs.declared.Interval.{Interval}
use Rattle.columns.specs.declared.Outcome.{Outcome}
use Rattle.memory.specs.Memory.{recalled}

-- Every remembered outcome has a property, which speaks of the node, the mode, the place, the interval and the flag too.
pub record Remembers (P : ℕ → ℕ → ℕ → Interval → Bool → Outcome → Type 0) (memory : List ℕ) : Type 0 where
  pub each : (n τ w : ℕ) (I : Interval) (b : Bool) (x : Outcome) → recalled memory n τ w I b ≡ Some x → P n τ w I b x
