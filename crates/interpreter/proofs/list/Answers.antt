-- `interpreter::list` meets its contract.
use Rattle.std.proofs.Common.{rules, arith}
use Rattle.interpreter.proofs.RunLaws.{list_failed_stands, list_succeeded_stands}
use Rattle.interpreter.proofs.list.Goals as goal

pub returns-in-Failure-clause-list_derived : goal.returns-in-Failure-clause-list_derived
returns-in-Failure-clause-list_derived c =
    let h = list_failed_stands c.args.reading c.args.nodes.now c.args.rules.now c.args.tokens.now c.args.start c.args.captures.now (omega arith) c.in_ok-whole.whole.outcome c.in_ok-whole.ensures.result_value c.in-Failure.is c.list.ensures.list_after c.list.auto.list in
    search (rules, h)

pub returns-else-captures-whole-clause-list_derived : goal.returns-else-captures-whole-clause-list_derived
returns-else-captures-whole-clause-list_derived c =
    let h = list_succeeded_stands c.args.reading c.args.nodes.now c.args.rules.now c.args.tokens.now c.args.start c.args.captures.now (omega arith) c.in_ok-whole.whole.outcome c.in_ok-whole.ensures.result_value c.in-Success.is (omega (arith, c.if-captures-whole.false)) c.list.ensures.list_after c.list.auto.list in
    search (rules, h)
