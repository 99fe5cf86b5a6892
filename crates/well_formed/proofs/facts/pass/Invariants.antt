-- `well_formed::facts::pass` meets its contract.
use Rattle.std.proofs.Common.{◌≡◌, length}
use Rattle.well_formed.specs.InternalPasses.{FactsPass}
use Rattle.well_formed.proofs.facts.pass.Given as goal

abbrev pub invariant-loop-n : goal.invariant-loop-n
invariant-loop-n l = (length l.cells ≡ length l.initial.cells) × FactsPass l.table.nodes.now l.table.rules.now l.n l.initial.cells l.cells l.found
