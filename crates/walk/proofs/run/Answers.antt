-- `walk::run` meets its contract.
use Rattle.std.proofs.Common.{◌∙◌}
use Rattle.walk.proofs.RunLaws.{memory_refused, run_answered, memory_cleared, remembers_cleared}
use Rattle.walk.proofs.run.Goals as goal

pub returns-in_err-admitted-clause-memory_after : goal.returns-in_err-admitted-clause-memory_after
returns-in_err-admitted-clause-memory_after c = memory_refused c.args.reading c.args.nodes.now c.args.rules.now c.args.tokens.now c.args.start c.args.memory.now _ c.in_err-admitted.ensures

pub walk_once-walk-requires-clause-remembering : goal.walk_once-walk-requires-clause-remembering
walk_once-walk-requires-clause-remembering c = remembers_cleared c.args.memory.now c.clear.ensures

pub returns-clause-result_value : goal.returns-clause-result_value
returns-clause-result_value c = run_answered c.args.reading c.args.nodes.now c.args.rules.now c.args.tokens.now c.args.start c.in_ok-admitted.ensures c.walk_once-walk.ensures.whole_walk

pub returns-clause-memory_after : goal.returns-clause-memory_after
returns-clause-memory_after c =
    memory_cleared c.args.reading c.args.nodes.now c.args.rules.now c.args.tokens.now c.args.start c.in_ok-admitted.ensures c.args.memory.now _ (c.walk_once-walk.auto.memory ∙ c.clear.auto.words) c.clear-2.ensures
