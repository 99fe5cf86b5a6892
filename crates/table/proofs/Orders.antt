-- Of two numbers.
use Prim.Native.Nat.{ℕ, ◌≤◌, ◌<◌}
use mathlib.Core.Logic.{◌⊎◌, inl, inr}
use native.Mathlib.Decide.{dec_le}
use native.Mathlib.Omega.{arith}

-- The first is at most the second, or above it.
pub le_or_lt : (a b : ℕ) → (a ≤ b) ⊎ (b < a)
le_or_lt a b = by_answer (dec_le a b)
  where
    by_answer : Dec (a ≤ b) → (a ≤ b) ⊎ (b < a)
    by_answer (yes h) = inl h
    by_answer (no h) = inr (omega arith)
