-- `walk::write_list` meets its contract.
use native.Mathlib.Omega.{arith}
use Rattle.walk.proofs.RunLaws.{no_room, zeros, listed_there}
use Rattle.walk.proofs.write_list.Goals as goal

pub returns-then-list-count : goal.returns-then-list-count
returns-then-list-count c =
    no_room c.args.input.now.reading c.args.input.now.nodes.now c.args.input.now.rules.now c.args.input.now.tokens.now c.args.start c.requires.admitted
    c.args.list.now (omega arith) c.requires.counted (omega (arith, c.if-list-count.true))

pub returns-then-count-eq0 : goal.returns-then-count-eq0
returns-then-count-eq0 c =
    zeros c.args.input.now.reading c.args.input.now.nodes.now c.args.input.now.rules.now c.args.input.now.tokens.now c.args.start c.requires.admitted
    c.args.list.now (omega arith) c.requires.counted (omega (arith, c.if-list-count.false))
    c.if-count-eq0.true c.clear.ensures

pub walk_once-requires : goal.walk_once-requires
walk_once-requires c =
    record {
      admitted = c.requires.admitted;
      counted_le_most_count = omega arith;
      remembering = c.requires.remembering;
    }

pub returns : goal.returns
returns c =
    listed_there c.args.input.now.reading c.args.input.now.nodes.now c.args.input.now.rules.now c.args.input.now.tokens.now c.args.start c.requires.admitted
    c.args.list.now (omega arith) c.requires.counted (omega (arith, c.if-list-count.false))
    c.walk_once.ensures.whole_walk c.clear-2.ensures
