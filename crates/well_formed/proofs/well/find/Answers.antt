-- `well_formed::well::find` meets its contract.
use Rattle.table.specs.Form.{node_count}
use Rattle.well_formed.proofs.DecidedLaws.{nodes_below, node_at}
use Rattle.well_formed.proofs.PassLaws.{fewer}
use Rattle.well_formed.proofs.well.find.Goals as goal

pub loop-smaller : goal.loop-smaller
loop-smaller c =
    fewer _ _ _ (nodes_below (node_count c.args.table.now.nodes.now)) (λ k l Q e. node_at Q (node_count c.args.table.now.nodes.now) e k l)
    c.loop-test.true c.pass.ensures
