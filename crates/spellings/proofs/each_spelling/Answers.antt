-- `spellings::each_spelling` meets its contract.
use Rattle.std.proofs.Common.{◌≡◌, false, true, sym, ap, ◌∙◌, arith}
use Rattle.std.proofs.lemmas.Fn.{says_at}
use Rattle.table.proofs.Every.{every_more}
use Rattle.file_fields.specs.Offsets.{next_at}
use Rattle.file_fields.proofs.Offsets.{offset_next}
use Rattle.spellings.proofs.SpellingLaws.{here, one_fails}
use Rattle.spellings.proofs.each_spelling.Goals as goal

pub returns-then-not-test : goal.returns-then-not-test
returns-then-not-test g c =
    λ p h.
    one_fails _ _ _ _ p c.loop.invariant.stands c.loop-test.true c.spelling_at.ensures
    (sym (h _ false (says_at g.F.Fn c.test.ensures c.if-not-test.true)))

pub loop-preserved : goal.loop-preserved
loop-preserved g c = record {
  stands = c.next_at-at.ensures ∙ ap (next_at _) c.loop.invariant.stands ∙ sym (offset_next _ _ _);
  right = λ p h.
      every_more _ _ (c.loop.invariant.right p h)
      (ap p (here _ _ _ _ c.loop.invariant.stands c.loop-test.true c.spelling_at.ensures)
      ∙ sym (h _ true (says_at g.F.Fn c.test.ensures c.if-not-test.false)));
}

pub returns : goal.returns
returns g c = λ p h. let all : c.loop.counter ≡ c.args.group.count = omega arith in sym (rw all at (c.loop.invariant.right p h))
