-- `well_formed::facts::find` meets its contract.
use Rattle.table.specs.Form.{node_count}
use Rattle.well_formed.proofs.DecidedLaws.{cells_below, cell_at}
use Rattle.well_formed.proofs.PassLaws.{fewer}
use Rattle.well_formed.proofs.facts.find.Goals as goal

pub loop-smaller : goal.loop-smaller
loop-smaller c =
    fewer _ _ _ (cells_below (node_count c.args.table.now.nodes.now))
    (λ k l Q e. cell_at Q (node_count c.args.table.now.nodes.now) e k.node l k.fact) c.loop-test.true c.pass.ensures
