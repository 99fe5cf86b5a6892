-- `line::answer` meets its contract.
use Rattle.std.proofs.Common.{refl}
use Rattle.std.proofs.lemmas.Result.{err_from_is_err_and}
use Rattle.line.proofs.RunLaws.{line_refuses, line_runs}
use Rattle.line.proofs.answer.Goals as goal

pub returns-in_err-ready : goal.returns-in_err-ready
returns-in_err-ready c =
    let p = err_from_is_err_and c.from_residual.result c.from_residual.ensures.1 in
    rw (p.1, p.2) (line_refuses _ _ _ c.in_err-ready.ensures.said)

pub returns : goal.returns
returns c = line_runs c.in_ok-ready.ensures.said refl c.remember.result c.start_at.ensures c.remember.ensures.result_value
