-- `file_shape::runs::run_of` meets its contract.
use Prim.Native.Nat.{ℕ, ◌-◌, ◌≤◌, ◌<◌}
use mathlib.Core.Path.{◌≡◌}
use mathlib.Core.Bool.{true}
use lib.ListN.{length}
use Rattle.file_fields.specs.Offsets.{offset_of, right_at}
use Rattle.file_shape.proofs.runs.run_of.Given as goal

abbrev pub invariant-loop-end : goal.invariant-loop-end
invariant-loop-end l = (l.end ≡ offset_of l.file l.at l.count) × ((i : ℕ) → i < l.count → right_at l.file (offset_of l.file l.at i) l.tag ≡ true) × (l.count ≤ l.end)

abbrev pub decreases-loop-end : goal.decreases-loop-end
decreases-loop-end l = length l.file - l.end
