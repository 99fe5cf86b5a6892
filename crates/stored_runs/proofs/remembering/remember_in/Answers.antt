-- `stored_runs::remembering::remember_in` meets its contract.
use Rattle.stored_runs.proofs.RememberedLaws.{remembers_carried}
use Rattle.stored_runs.proofs.remembering.remember_in.Goals as goal

pub returns : goal.returns
returns c =
    remembers_carried _ _ _ _ c.load.ensures c.load-2.ensures c.load-3.ensures
    (record {
      answers = record { answer = c.remember.ensures.result_value; derived = c.remember.ensures.derived };
      left = c.remember.ensures.memory_after;
    })
