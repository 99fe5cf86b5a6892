-- `token_words::write` meets its contract.
use Rattle.std.proofs.Common.{◌∙◌, arith}
use Rattle.file_fields.specs.Offsets.{keywords_from}
use Rattle.token_words.proofs.LoopLaws.{writing_start, writing_ends, writing_less, writing_next}
use Rattle.token_words.proofs.write.Goals as goal

pub loop-next-init : goal.loop-next-init
loop-next-init c =
    writing_start c.args.report.now (keywords_from c.args.file.now c.args.keywords) c.args.tokens.now c.requires.report_len_bound
    c.find-next.ensures

pub loop-next-smaller : goal.loop-next-smaller
loop-next-smaller c =
    writing_less c.args.report.now (keywords_from c.args.file.now c.args.keywords) c.args.tokens.now c.loop-next.invariant
    c.in-Some.is c.find-next-in-Some.ensures

pub loop-next-preserved : goal.loop-next-preserved
loop-next-preserved c =
    writing_next c.args.report.now (keywords_from c.args.file.now c.args.keywords) c.args.tokens.now c.loop-next.invariant
    c.in-Some.is c.find-next-in-Some.ensures
    (c.copy_from_slice.ensures.after ∙ c.words_at.ensures) (omega arith)

pub returns : goal.returns
returns c =
    writing_ends c.args.report.now (keywords_from c.args.file.now c.args.keywords) c.args.tokens.now c.loop-next.invariant
    c.in_default.is
