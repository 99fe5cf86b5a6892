-- `table::rule_wrong` meets its contract.
use Rattle.std.proofs.Common.{◌≡◌, true, ltb}
use Rattle.table.specs.Every.{every}
use Rattle.table.specs.Form.{node_count, stands_for}
use Rattle.table.proofs.rule_wrong.Given as goal

abbrev pub invariant-loop-node : goal.invariant-loop-node
invariant-loop-node l = every l.node-index (λ r. ltb (stands_for l.rules r) (node_count l.nodes)) ≡ true
