-- `stored_runs::run_in` meets its contract.
use mathlib.Core.Path.{refl}
use Rattle.stored_runs.proofs.Laws.{carried}
use Rattle.stored_runs.proofs.run_in.Goals as goal

pub returns : goal.returns
returns c =
    carried _ _ c.load.ensures c.load-2.ensures refl
    (record { answer = c.run.ensures.result_value; derived = c.run.ensures.derived })
