-- `walk::states::token` meets its contract.
use Rattle.std.proofs.Common.{◌∙◌}
use Rattle.walk.proofs.LeafLaws.{token_none, token_other, token_there}
use Rattle.walk.proofs.states.token.Goals as goal

pub returns-then-tokens-at : goal.returns-then-tokens-at
returns-then-tokens-at c =
    token_none c.args.tokens.now c.args.mode c.args.terminal c.args.s
    c.requires.whole c.max-farthest.ensures c.if-tokens-at.true

pub returns-then-tokens-at-2 : goal.returns-then-tokens-at-2
returns-then-tokens-at-2 c =
    token_other c.args.tokens.now c.args.mode c.args.terminal c.args.s
    c.requires.whole c.max-farthest.ensures c.if-tokens-at.false c.if-tokens-at-2.true

pub returns : goal.returns
returns c =
    c.at_column.ensures
    ∙ token_there c.args.tokens.now c.args.mode c.args.terminal c.args.s
    c.requires.whole c.max-farthest.ensures c.if-tokens-at.false c.if-tokens-at-2.false
