-- `table::node_wrong` meets its contract.
use Rattle.std.proofs.Common.{sym, ap, not, ◌∙◌}
use Rattle.table.specs.Checks.{fails4}
use Rattle.table.proofs.Every.{every_fails}
use Rattle.table.proofs.node_wrong.Goals as goal

pub returns-then-not-words_right : goal.returns-then-not-words_right
unfolding fails4
returns-then-not-words_right c = sym (ap not (every_fails _ _ c.loop-n.n c.loop-n-test.true (sym c.words_right.ensures ∙ c.if-not-words_right.true)))
