-- `grammar_file::read` meets its contract.
use Rattle.std.proofs.Common.{ap, ◌∙◌}
use Rattle.std.proofs.lemmas.Result.{err_from_is_err_and}
use Rattle.table.specs.Answer.{given}
use Rattle.grammar_file.proofs.ReadLaws.{read_refuses, room, nodes_after, rules_after}
use Rattle.grammar_file.proofs.read.Goals as goal

pub returns-in_err-shape-clause-result_value : goal.returns-in_err-shape-clause-result_value
returns-in_err-shape-clause-result_value c =
    let p = err_from_is_err_and c.from_residual.result c.from_residual.ensures.1 in
    rw (p.1, p.2) (read_refuses _ _ c.in_err-shape.ensures _ _)

pub returns-in_err-write_tables-clause-result_value :
    goal.returns-in_err-write_tables-clause-result_value
returns-in_err-write_tables-clause-result_value c =
    let e = c.in_err-write_tables.ensures.value in
    let p = err_from_is_err_and c.from_residual-in_err-write_tables.result c.from_residual-in_err-write_tables.ensures.1 in
    rw (p.1, p.2, e.0) (room _ _ c.in_ok-shape.ensures _ _ e.1)

pub returns-clause-result_value : goal.returns-clause-result_value
returns-clause-result_value c = ap given c.contents.ensures ∙ room _ _ c.in_ok-shape.ensures _ _ c.in_ok-write_tables.ensures.value

pub returns-clause-nodes_after : goal.returns-clause-nodes_after
returns-clause-nodes_after c =
    rw c.in_ok-write_tables.ensures.value at c.write_tables.ensures.nodes_after ∙ nodes_after _ _ c.in_ok-shape.ensures _

pub returns-clause-rules_after : goal.returns-clause-rules_after
returns-clause-rules_after c =
    rw c.in_ok-write_tables.ensures.value at c.write_tables.ensures.rules_after ∙ rules_after _ _ c.in_ok-shape.ensures _
