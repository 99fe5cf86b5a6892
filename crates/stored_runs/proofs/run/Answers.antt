-- `stored_runs::run` meets its contract.
use Rattle.stored_cases.proofs.Laws.{lent}
use Rattle.stored_runs.proofs.Laws.{as_many_pairs}
use Rattle.stored_runs.proofs.run.Goals as goal

pub returns : goal.returns
returns c =
    as_many_pairs _ _ c.run_in.ensures
    (lent _ _ _ 2100 c.zeros-node_words.ensures c.min-x.ensures)
    (lent _ _ _ 200 c.zeros-rule_words.ensures c.min-y.ensures)
