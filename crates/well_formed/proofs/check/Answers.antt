-- `well_formed::check` meets its contract.
use Rattle.std.proofs.Common.{refl, sym}
use Rattle.std.proofs.lemmas.Result.{err_from_is_err_and}
use Rattle.well_formed.proofs.VerdictLaws.{answer_refused, answer_judged}
use Rattle.well_formed.proofs.check.Goals as goal

pub returns-in_err-check : goal.returns-in_err-check
returns-in_err-check c =
    let p = err_from_is_err_and c.from_residual.result c.from_residual.ensures.1 in
    rw (p.1, p.2)
    (let q = answer_refused c.args.nodes.now c.args.rules.now _ c.in_err-check.ensures refl in
    record { result_value = q.0; means = q.1 })

pub returns : goal.returns
returns c =
    let q = answer_judged c.args.nodes.now c.args.rules.now (sym c.in_ok-check.ensures) c.judge.ensures in record { result_value = q.0; means = q.1 }
