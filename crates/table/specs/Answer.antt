-- What a call answers (01, "Turned-down calls"): what it was asked for, or the number of the first check that fails, "with
-- the node for 7". One type for all parts.
use Rattle.std.specs.Prelude.{ℕ, Bool, true, false, List, ◌++◌, length, drop}

-- What was asked for, the number of a check that fails, or that number with a node.
pub data Answer (A : Type 0) : Type 0 where
  given : A → Answer A
  refused : ℕ → Answer A
  refused_at : (number node : ℕ) → Answer A

-- "Checks run in rising number": the number where its check fails, and otherwise what the later checks give.
abbrev pub refuse_if : {A : Type 0} → Bool → ℕ → Answer A → Answer A
refuse_if true number next = refused number
refuse_if false number next = next

-- One part after another: what the first refuses with, and otherwise what the second answers.
abbrev pub and_then : {A B : Type 0} → Answer B → Answer A → Answer A
and_then (given b) next = next
and_then (refused number) next = refused number
and_then (refused_at number node) next = refused_at number node

-- What a lent slice holds afterwards. "Nothing is written" by a refused call, and "after success, words past those
-- written are as before".
abbrev pub afterwards : {A : Type 0} → Answer A → List ℕ → List ℕ → List ℕ
afterwards (given a) written before = written ++ drop (length written) before
afterwards (refused number) written before = before
afterwards (refused_at number node) written before = before
