-- `token_words::measure` meets its contract.
use Rattle.std.proofs.Common.{refl, arith}
use Rattle.token_words.proofs.LoopLaws.{counting_start, counting_ends, counting_over, counting_fits, counting_less, counting_next}
use Rattle.token_words.proofs.measure.Goals as goal

pub loop-next-init : goal.loop-next-init
loop-next-init c = counting_start c.args.report.now c.requires c.find-next.ensures

pub returns-then-place-gt-LAST_COLUMN : goal.returns-then-place-gt-LAST_COLUMN
returns-then-place-gt-LAST_COLUMN c =
    (refl, counting_over c.args.report.now c.loop-next.invariant c.in-Some.is c.if-place-gt-LAST_COLUMN.true)

pub overflow_add-n : goal.overflow_add-n
overflow_add-n c = omega (arith, counting_fits c.args.report.now c.loop-next.invariant c.in-Some.is)

pub loop-next-smaller : goal.loop-next-smaller
loop-next-smaller c = counting_less c.args.report.now c.loop-next.invariant c.in-Some.is c.find-next-in-Some.ensures

pub loop-next-preserved : goal.loop-next-preserved
loop-next-preserved c =
    counting_next c.args.report.now c.loop-next.invariant c.in-Some.is c.find-next-in-Some.ensures c.if-place-gt-LAST_COLUMN.false

pub returns : goal.returns
returns c = counting_ends c.args.report.now c.loop-next.invariant c.in_default.is
