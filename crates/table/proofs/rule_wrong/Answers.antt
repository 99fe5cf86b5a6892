-- `table::rule_wrong` meets its contract.
use Rattle.std.proofs.Common.{sym, ap, not, le-ltb}
use Rattle.table.specs.Checks.{fails5}
use Rattle.table.proofs.Every.{every_fails}
use Rattle.table.proofs.rule_wrong.Goals as goal

pub returns-then-node-count : goal.returns-then-node-count
unfolding fails5
returns-then-node-count c = sym (ap not (every_fails _ _ c.loop-node.node-index c.loop-node-test.true (le-ltb _ _ c.if-node-count.true)))
