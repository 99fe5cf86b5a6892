-- `well_formed::well::find` meets its contract.
use mathlib.Core.Path.{◌≡◌}
use lib.ListN.{length}
use Rattle.table.specs.Form.{node_count}
use Rattle.well_formed.specs.InternalPasses.{well_cells, WellReady}
use Rattle.well_formed.proofs.FixpointLaws.{missing}
use Rattle.well_formed.proofs.DecidedLaws.{nodes_below}
use Rattle.well_formed.proofs.well.find.Given as goal

abbrev pub invariant-loop : goal.invariant-loop
invariant-loop l = WellReady l.table.nodes.now l.table.rules.now l.cells l.well × (length l.well ≡ length l.initial.well)

abbrev pub decreases-loop : goal.decreases-loop
decreases-loop l = missing (well_cells l.table.nodes.now l.table.rules.now l.well) (nodes_below (node_count l.table.nodes.now))
