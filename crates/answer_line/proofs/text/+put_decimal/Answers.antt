-- `answer_line::text::put_decimal`, which calls itself, meets its contract.
use native.Mathlib.Omega.{arith}
use Rattle.answer_line.proofs.PutLaws.{digits_none, digits_last, digits_more}
use Rattle.answer_line.proofs.text.+put_decimal.Goals as goal

pub returns-then-most-eq0-clause-puts : goal.returns-then-most-eq0-clause-puts
returns-then-most-eq0-clause-puts t c =
    digits_none c.args.out.now c.args.at c.args.n (omega (arith, c.requires)) c.if-most-eq0.true

pub returns-then-n-lt10-clause-puts : goal.returns-then-n-lt10-clause-puts
returns-then-n-lt10-clause-puts t c = digits_last c.if-most-eq0.false c.if-n-lt10.true c.put.ensures

pub returns-clause-puts : goal.returns-clause-puts
returns-clause-puts t c =
    digits_more c.if-most-eq0.false c.if-n-lt10.false c.put_decimal-next.ensures.puts c.put-2.ensures
