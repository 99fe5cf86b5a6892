-- `spellings::same` meets its contract.
use Rattle.std.proofs.Common.{◌≡◌, length, length-append, ap₂, refl, arith, nat_eq}
use Rattle.std.proofs.lemmas.Slice.Zip.{zip_turn, zip_end}
use borrow.Author.Tests.{eq-eqb, ne_eqb}
use Rattle.table.specs.Every.{every}
use Rattle.table.proofs.Every.{every_next}
use Rattle.spellings.specs.Spellings.{same_bytes}
use Rattle.spellings.proofs.SpellingLaws.{agree, last_apart}
use Rattle.spellings.proofs.same.Goals as goal

pub returns-then-s-t : goal.returns-then-s-t
unfolding same_bytes
returns-then-s-t c = rw (ne_eqb (length c.args.s.now) (length c.args.t.now) c.if-s-t.true) refl

pub returns-then-ne : goal.returns-then-ne
returns-then-ne c = last_apart _ _ _ _ c.last.ensures.value c.last-2.ensures.value (grind arith)

pub loop-a-init : goal.loop-a-init
unfolding every
loop-a-init c = refl

pub loop-a-preserved : goal.loop-a-preserved
loop-a-preserved c =
    let t = zip_turn c.args.s.now c.args.t.now c.loop-a.yielded c.into_iter-a-iterator.result c.loop-a.a-iterator c.next.new.self c.next.result (grind arith) (grind arith) c.loop-a.yielded_by _ c.in-Some.is c.next.ensures.steps in
    rw length-append (every_next _ (agree c.args.s.now c.args.t.now) c.loop-a.invariant (ap₂ nat_eq (t.2 0) (t.3 0)))

pub returns : goal.returns
unfolding same_bytes
returns c =
    let e = zip_end c.args.s.now c.args.t.now c.loop-a.yielded c.into_iter-a-iterator.result c.loop-a.a-iterator c.next.new.self c.next.result (grind arith) (grind arith) c.loop-a.yielded_by c.in-None.is c.next.ensures.steps in
    let n : length c.loop-a.yielded ≡ length c.args.s.now = omega (arith, e, c.if-s-t.false) in
    rw (eq-eqb _ _ c.if-s-t.false, ← n) c.loop-a.invariant
