-- `answer_line::farthest::write` meets its contract.
use Rattle.std.proofs.Common.{sym, ◌∙◌}
use Rattle.answer_line.proofs.EntryCases.{report_most}
use Rattle.answer_line.proofs.farthest.write.Goals as goal

pub put_said-requires : goal.put_said-requires
put_said-requires g c = (
  c.if-out-lt-ROOM.false,
  report_most c.args.report.now (sym c.refused.ensures ∙ c.if-refused.false),
  sym c.tokens_wrong.ensures ∙ c.if-tokens_wrong.false,
)
