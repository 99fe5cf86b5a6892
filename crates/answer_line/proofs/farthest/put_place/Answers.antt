-- `answer_line::farthest::put_place` meets its contract.
use native.Mathlib.Omega.{arith}
use Rattle.answer_line.proofs.EntryCases.{column_most}
use Rattle.answer_line.proofs.FarthestLaws.{line_within, place_end, place_there}
use Rattle.answer_line.proofs.farthest.put_place.Goals as goal

pub returns-then-tokens-w : goal.returns-then-tokens-w
returns-then-tokens-w c = place_end c.args.report.now c.args.tokens.now c.args.w c.if-tokens-w.true c.put_word.ensures

pub line_at-line-requires : goal.line_at-line-requires
line_at-line-requires c = (omega (arith, c.min.ensures), c.requires.1)

pub overflow_add-column : goal.overflow_add-column
overflow_add-column c =
    omega (
      arith,
      c.column_at-column.ensures,
      column_most c.args.tokens.now c.requires.2 c.args.w (omega (arith, c.if-tokens-w.false)),
    )

pub returns : goal.returns
returns c =
    place_there c.args.report.now c.args.tokens.now c.args.w (omega (arith, c.if-tokens-w.false))
    (line_within c.args.report.now c.args.tokens.now c.args.w c.min.ensures c.line_at-line.ensures)
    c.column_at-column.ensures c.put_number-first.ensures.puts c.put_number-second.ensures.puts c.put.ensures
