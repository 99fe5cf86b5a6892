-- `table::node_wrong` meets its contract.
use Rattle.std.proofs.Common.{◌≡◌, true}
use Rattle.table.specs.Every.{every}
use Rattle.table.specs.Checks.{right_node}
use Rattle.table.proofs.node_wrong.Given as goal

abbrev pub invariant-loop-n : goal.invariant-loop-n
invariant-loop-n l = every l.n (right_node l.nodes l.rules) ≡ true
