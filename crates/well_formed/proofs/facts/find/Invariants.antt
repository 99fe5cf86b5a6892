-- `well_formed::facts::find` meets its contract.
use Rattle.std.proofs.Common.{◌≡◌, length}
use Rattle.table.specs.Form.{node_count}
use Rattle.well_formed.specs.InternalPasses.{known_cells, FactsReady}
use Rattle.well_formed.proofs.FixpointLaws.{missing}
use Rattle.well_formed.proofs.DecidedLaws.{cells_below}
use Rattle.well_formed.proofs.facts.find.Given as goal

abbrev pub invariant-loop : goal.invariant-loop
invariant-loop l = FactsReady l.table.nodes.now l.table.rules.now l.cells × (length l.cells ≡ length l.initial.cells)

abbrev pub decreases-loop : goal.decreases-loop
decreases-loop l = missing (known_cells l.table.nodes.now l.table.rules.now l.cells) (cells_below (node_count l.table.nodes.now))
