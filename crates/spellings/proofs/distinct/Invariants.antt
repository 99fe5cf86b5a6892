-- `spellings::distinct` meets its contract. The loop's invariant: `at` is the offset of field `j`, the
-- spellings before it are distinct, and their keys are marked.
use Prim.Native.Nat.{ℕ}
use mathlib.Core.Path.{◌≡◌}
use mathlib.Core.List.{List, []}
use mathlib.Core.Bool.{Bool, true, not}
use lib.ListN.{get_or}
use Rattle.table.specs.Every.{every}
use Rattle.file_fields.specs.Offsets.{offset_of, spellings_from}
use Rattle.spellings.specs.Spellings.{same_bytes}
use Rattle.spellings.proofs.KeyLaws.{Met}
use Rattle.spellings.proofs.distinct.Given as goal

-- Whether a spelling differs from the first j names.
abbrev pub differs : List (List ℕ) → ℕ → List ℕ → Bool
differs names j s = every j (λ i. not (same_bytes (get_or names i []) s))

abbrev pub invariant-loop-j : goal.invariant-loop-j
invariant-loop-j l =
    let names = spellings_from l.file l.fn.group.at l.fn.group.count l.skip in
    record {
      stands : l.at ≡ offset_of l.file l.fn.group.at l.j;
      right : every l.j (λ k. differs names k (get_or names k [])) ≡ true;
      met : Met names l.j l.met;
    }
