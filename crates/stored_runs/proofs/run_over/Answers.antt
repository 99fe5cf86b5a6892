-- `stored_runs::run_over` meets its contract.
use mathlib.Core.Path.{refl}
use Rattle.stored_runs.proofs.Laws.{carried}
use Rattle.stored_runs.proofs.run_over.Goals as goal

pub returns : goal.returns
returns c = carried _ _ refl refl c.load.ensures c.run.ensures
