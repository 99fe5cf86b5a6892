-- `spellings::key` meets its contract.
use Rattle.std.proofs.Common.{ℕ, ◌%◌, length, length-append, ap, ◌∙◌, arith}
use Rattle.std.proofs.lemmas.Slice.Zip.{zip_turn, zip_end}
use Rattle.spellings.specs.Keys.{key_of}
use Rattle.spellings.proofs.KeyLaws.{weights, summed_none, summed_more, summed_all}
use Rattle.spellings.proofs.key.Goals as goal

pub loop-b-init : goal.loop-b-init
loop-b-init c = summed_none

pub loop-b-preserved : goal.loop-b-preserved
loop-b-preserved c =
    let t = zip_turn c.args.s.now weights c.loop-b.yielded c.into_iter-b-iterator.result c.loop-b.b-iterator c.next.new.self c.next.result (grind arith) (grind arith) c.loop-b.yielded_by _ c.in-Some.is c.next.ensures.steps in
    rw length-append (summed_more c.loop-b.invariant t.1 (omega (arith, c.type_inv.s (length c.loop-b.yielded), t.2 0)) (c.from.ensures ∙ t.2 0) (c.from-in-loop-b.ensures ∙ t.3 0))

pub returns-clause-value : goal.returns-clause-value
unfolding key_of
returns-clause-value c =
    ap (λ (n : ℕ). n % 4096)
    (summed_all c.loop-b.invariant (zip_end c.args.s.now weights c.loop-b.yielded c.into_iter-b-iterator.result c.loop-b.b-iterator c.next.new.self c.next.result (grind arith) (grind arith) c.loop-b.yielded_by c.in-None.is c.next.ensures.steps))
