-- `walk::list` meets its contract.
use Rattle.std.proofs.Common.{refl, ◌∙◌}
use Rattle.std.proofs.lemmas.Result.{err_from_is_err_and}
use Rattle.walk.proofs.RunLaws.{walk_refused, list_refused, memory_refused, walk_answered, memory_cleared, remembers_cleared}
use Rattle.walk.proofs.list.Goals as goal

pub returns-in_err-admitted-clause-result_value : goal.returns-in_err-admitted-clause-result_value
returns-in_err-admitted-clause-result_value c =
    let p = err_from_is_err_and c.from_residual.result c.from_residual.ensures.1 in
    rw (p.1, p.2) (walk_refused c.args.reading c.args.nodes.now c.args.rules.now c.args.tokens.now c.args.start c.args.list.now _ c.in_err-admitted.ensures)

pub returns-in_err-admitted-clause-list_after : goal.returns-in_err-admitted-clause-list_after
returns-in_err-admitted-clause-list_after c = list_refused c.args.reading c.args.nodes.now c.args.rules.now c.args.tokens.now c.args.start c.args.list.now _ c.in_err-admitted.ensures

pub returns-in_err-admitted-clause-memory_after : goal.returns-in_err-admitted-clause-memory_after
returns-in_err-admitted-clause-memory_after c = memory_refused c.args.reading c.args.nodes.now c.args.rules.now c.args.tokens.now c.args.start c.args.memory.now _ c.in_err-admitted.ensures

pub walk_once-walk-requires-clause-remembering : goal.walk_once-walk-requires-clause-remembering
walk_once-walk-requires-clause-remembering c = remembers_cleared c.args.memory.now c.clear.ensures

pub returns-clause-result_value : goal.returns-clause-result_value
returns-clause-result_value c = walk_answered c.args.reading c.args.nodes.now c.args.rules.now c.args.tokens.now c.args.start c.in_ok-admitted.ensures (c.walk_once-walk.ensures.whole_walk.whole refl)

pub returns-clause-memory_after : goal.returns-clause-memory_after
returns-clause-memory_after c =
    memory_cleared c.args.reading c.args.nodes.now c.args.rules.now c.args.tokens.now c.args.start c.in_ok-admitted.ensures c.args.memory.now _
    (c.write_list.auto.memory ∙ c.walk_once-walk.auto.memory ∙ c.clear.auto.words) c.clear-2.ensures
