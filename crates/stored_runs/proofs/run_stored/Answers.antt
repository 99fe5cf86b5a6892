-- `stored_runs::run_stored` meets its contract.
use Rattle.stored_cases.proofs.Laws.{lent}
use Rattle.stored_runs.proofs.Laws.{as_many_quads}
use Rattle.stored_runs.proofs.run_stored.Goals as goal

pub returns : goal.returns
returns c =
    as_many_quads _ c.run_over.ensures
    (lent _ _ _ 16500 c.zeros-token_words.ensures c.min-z.ensures)
