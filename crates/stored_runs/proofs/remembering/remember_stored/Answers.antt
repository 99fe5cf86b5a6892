-- `stored_runs::remembering::remember_stored` meets its contract.
use Rattle.stored_cases.proofs.Laws.{lent}
use Rattle.stored_runs.proofs.RememberedLaws.{remembers_as_many}
use Rattle.stored_runs.proofs.remembering.remember_stored.Goals as goal

pub returns : goal.returns
returns c =
    remembers_as_many _ _ _ c.remember_in.ensures
    (lent _ _ _ 2100 c.zeros-node_words.ensures c.min-x.ensures)
    (lent _ _ _ 200 c.zeros-rule_words.ensures c.min-y.ensures)
    (lent _ _ _ 16500 c.zeros-token_words.ensures c.min-z.ensures)
