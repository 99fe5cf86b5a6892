-- `spellings::distinct` meets its contract.
use Prim.Native.Nat.{ℕ, ◌<◌}
use mathlib.Core.Path.{◌≡◌, refl, sym, ap, ◌∙◌}
use mathlib.Core.List.{List}
use mathlib.Core.Bool.{true, not}
use native.Mathlib.Omega.{arith}
use Rattle.table.specs.Every.{every}
use Rattle.table.proofs.Every.{every_same, every_more, every_fails}
use Rattle.file_fields.specs.Offsets.{next_at, spellings_from, offset_of}
use Rattle.spellings.specs.Spellings.{same_bytes, distinct}
use Rattle.file_fields.proofs.Offsets.{length_spellings, spelling_from, offset_next}
use Rattle.spellings.proofs.SpellingLaws.{here}
use Rattle.spellings.proofs.KeyLaws.{met_none, met_more, none_same}
use Rattle.spellings.proofs.distinct.Invariants.{differs}
use Rattle.spellings.proofs.distinct.Goals as goal
use Rattle.spellings.proofs.distinct.Goals.{else-met-h-via-then-met-h+else-not-unlike, else-met-h-via-else-met-h}

-- The first j names are the same where no more are looked at.
fewer :
    (file : List ℕ) (first count skip j : ℕ) (s : List ℕ)
    → j < count
    → differs (spellings_from file first count skip) j s ≡ differs (spellings_from file first j skip) j s
fewer file first count skip j s h =
    every_same j _ _
    (λ i a. ap (λ (t : List ℕ). not (same_bytes t s)) (spelling_from file first count skip i (omega arith) ∙ sym (spelling_from file first j skip i a)))

pub loop-j-init : goal.loop-j-init
unfolding every offset_of
loop-j-init c = record { stands = refl; right = refl; met = met_none }

pub returns-then-not-unlike : goal.returns-then-not-unlike
unfolding distinct
returns-then-not-unlike c =
    rw length_spellings
    (sym (every_fails _ _ _ c.loop-j-test.true
    (ap (differs _ c.loop-j.j) (here _ _ _ _ c.loop-j.invariant.stands c.loop-j-test.true c.spelling_at-s.ensures)
    ∙ fewer _ _ _ _ _ _ c.loop-j-test.true
    ∙ sym c.unlike.ensures
    ∙ c.if-not-unlike.true)))

pub loop-j-preserved : goal.loop-j-preserved
loop-j-preserved c =
    let this = here _ _ _ _ c.loop-j.invariant.stands c.loop-j-test.true c.spelling_at-s.ensures in
    let new : differs (spellings_from c.args.file.now c.args.group.at c.args.group.count c.args.skip) c.loop-j.j c.spelling_at-s.result.now ≡ true =
    elim c.else-met-h.branch [
      | else-met-h-via-then-met-h+else-not-unlike w ↦ fewer _ _ _ _ _ _ c.loop-j-test.true ∙ sym w.unlike.ensures ∙ w.if-not-unlike.false
      | else-met-h-via-else-met-h w ↦ none_same _ c.loop-j.invariant.met c.key-h.ensures.value w.if-met-h.false
    ] in
    record {
      stands = c.next_at-at.ensures ∙ ap (next_at _) c.loop-j.invariant.stands ∙ sym (offset_next _ _ _);
      right = every_more _ _ c.loop-j.invariant.right (ap (differs _ c.loop-j.j) this ∙ new);
      met = met_more c.loop-j.invariant.met this c.key-h.ensures.value c.key-h.ensures.upper_bound;
    }

pub returns : goal.returns
unfolding distinct
returns c = rw length_spellings (grind arith)
