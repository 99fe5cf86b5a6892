-- `walk::walk_once` meets its contract.
use Rattle.std.proofs.Common.{arith}
use Rattle.walk.proofs.RunLaws.{begin_ready, begin_room, whole_failed, whole_read}
use Rattle.walk.proofs.walk_once.Goals as goal

pub expression-x-requires-clause-ready : goal.expression-x-requires-clause-ready
expression-x-requires-clause-ready c = begin_ready c.args.input.now.reading c.args.input.now.nodes.now c.args.input.now.rules.now c.args.input.now.tokens.now c.args.start c.requires.admitted

pub expression-x-requires-clause-room : goal.expression-x-requires-clause-room
expression-x-requires-clause-room c =
    begin_room c.args.input.now.reading c.args.input.now.nodes.now c.args.input.now.rules.now c.args.input.now.tokens.now c.args.start c.requires.admitted
    c.requires.counted_le_most_count (omega arith)

pub returns-in-Failure-clause-whole_walk : goal.returns-in-Failure-clause-whole_walk
returns-in-Failure-clause-whole_walk c =
    whole_failed c.args.input.now.reading c.args.input.now.nodes.now c.args.input.now.rules.now c.args.input.now.tokens.now c.args.start c.requires.admitted
    c.in-Failure.farthest c.expression-x.ensures.walked c.in-Failure.is

pub returns-in-Success-clause-whole_walk : goal.returns-in-Success-clause-whole_walk
returns-in-Success-clause-whole_walk c =
    whole_read c.args.input.now.reading c.args.input.now.nodes.now c.args.input.now.rules.now c.args.input.now.tokens.now c.args.start c.requires.admitted
    c.in-Success.u c.expression-x.ensures.walked c.in-Success.is
