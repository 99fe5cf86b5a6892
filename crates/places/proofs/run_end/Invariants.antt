-- `places::run_end` meets its contract.
use Rattle.std.proofs.Common.{◌≡◌, ℕ, ◌+◌, List, take, drop}
use Rattle.places.specs.InternalFind.{Room}
use Rattle.places.specs.Columns.{column_over}
use Rattle.places.specs.Places.{run_length}
use Rattle.places.specs.declared.Position.{Position}
use Rattle.places.proofs.run_end.Given as goal

-- The run and its last column, from what is left of it.
abbrev pub Running : List ℕ → Position → ℕ → ℕ → Type 0
Running text from at column =
    Room text at column
    × (from.offset + run_length (drop from.offset text) ≡ at + run_length (drop at text))
    × (column_over (take (run_length (drop from.offset text)) (drop from.offset text)) from.column
    ≡ column_over (take (run_length (drop at text)) (drop at text)) column)

abbrev pub invariant-loop-offset : goal.invariant-loop-offset
invariant-loop-offset l = Running l.report l.from l.offset l.column
