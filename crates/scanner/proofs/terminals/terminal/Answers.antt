-- `scanner::terminals::terminal` meets its contract.
use Rattle.std.proofs.Common.{refl, sym, ◌∙◌}
use Rattle.file_fields.specs.Offsets.{offset_of, keywords_from}
use Rattle.file_fields.proofs.Offsets.{offset_next}
use Rattle.scanner.proofs.KeywordLaws.{length_keywords, ended, step}
use Rattle.scanner.proofs.terminals.terminal.Goals as goal

pub loop-k-init : goal.loop-k-init
unfolding offset_of
loop-k-init c = (refl, refl)

pub returns-then-same : goal.returns-then-same
returns-then-same c =
    c.keyword_terminal.ensures
    ∙ sym
    (c.loop-k.invariant.1
    ∙ step c.args.file.now c.args.count c.loop-k.k c.args.s.now c.loop-k.invariant.0
    c.loop-k-test.true c.value_at.ensures (sym c.if-same.true ∙ c.same.ensures))

pub loop-k-preserved : goal.loop-k-preserved
loop-k-preserved c = (
  rw (offset_next, ← c.loop-k.invariant.0) c.next_at-at.ensures,
  c.loop-k.invariant.1
      ∙ step c.args.file.now c.args.count c.loop-k.k c.args.s.now c.loop-k.invariant.0
      c.loop-k-test.true c.value_at.ensures (sym c.if-same.false ∙ c.same.ensures),
)

pub returns : goal.returns
returns c =
    c.no_keyword.ensures
    ∙ sym
    (c.loop-k.invariant.1
    ∙ ended (keywords_from c.args.file.now c.args.count) c.loop-k.k _
    (rw length_keywords c.loop-k-test.false))
