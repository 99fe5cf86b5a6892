-- `stored_runs::remembering::kept` meets its contract.
use Rattle.std.proofs.Common.{rules}
use Rattle.stored_runs.proofs.RememberedLaws.{goes_on, stops, ends}
use Rattle.stored_runs.proofs.remembering.kept.Goals as goal

pub returns-then-word-lent_word : goal.returns-then-word-lent_word
returns-then-word-lent_word c = stops _ _ c.loop-i.invariant (search rules) c.lent_word.ensures c.if-word-lent_word.true

pub loop-i-preserved : goal.loop-i-preserved
loop-i-preserved c = goes_on _ _ c.loop-i.invariant (search rules) c.lent_word.ensures c.if-word-lent_word.false

pub returns : goal.returns
returns c = ends _ _ c.loop-i.invariant (search rules)
