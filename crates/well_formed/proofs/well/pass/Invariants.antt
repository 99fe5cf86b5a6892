-- `well_formed::well::pass` meets its contract.
use mathlib.Core.Path.{◌≡◌}
use lib.ListN.{length}
use Rattle.well_formed.specs.InternalPasses.{WellPass}
use Rattle.well_formed.proofs.well.pass.Given as goal

abbrev pub invariant-loop-n : goal.invariant-loop-n
invariant-loop-n l = (length l.well ≡ length l.initial.well) × WellPass l.table.nodes.now l.table.rules.now l.cells l.n l.initial.well l.well l.found
