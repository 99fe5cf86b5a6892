-- `grammar_writer::check_started` meets its contract.
use Rattle.std.proofs.Common.{arith}
use Rattle.std.proofs.lemmas.Result.{err_from_is_err_and}
use Rattle.grammar_writer.proofs.LendLaws.{start_after, table_refuses}
use Rattle.grammar_writer.proofs.check_started.Goals as goal

pub returns-in_err-check : goal.returns-in_err-check
returns-in_err-check c =
    let p = err_from_is_err_and c.from_residual.result c.from_residual.ensures.1 in
    rw (p.1, p.2) (table_refuses _ _ _ _ _ c.in_err-check.ensures)

pub returns-then-from-nodes : goal.returns-then-from-nodes
returns-then-from-nodes c = grind (arith, start_after c.args.nodes.now c.args.rules.now c.args.node c.args.mode)

pub returns : goal.returns
returns c = grind (arith, start_after c.args.nodes.now c.args.rules.now c.args.node c.args.mode)
