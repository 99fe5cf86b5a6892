-- `file_shape::runs::run_of` meets its contract.
use native.Mathlib.Omega.{arith}
use Prim.Native.Nat.{ℕ, ◌+◌, ◌-◌, ◌≤◌, ◌<◌}
use mathlib.Core.Path.{◌≡◌, refl, sym, ◌∙◌}
use mathlib.Core.List.{List}
use mathlib.Core.Bool.{true}
use native.Mathlib.Numerals.{add-one}
use lib.ListN.{length}
use borrow.Author.Count.{below_more}
use Rattle.file_fields.specs.Offsets.{next_at, offset_of, right_at}
use Rattle.file_shape.proofs.OrderLaws.{whole}
use Rattle.file_shape.proofs.runs.run_of.Goals as goal

-- Behind a right field less of the file is left.
next_more : (file : List ℕ) (at t : ℕ) → right_at file at t ≡ true → {next : ℕ} → next ≡ next_at file at → length file - next < length file - at
unfolding next_at
next_more file at t h e = omega (arith, whole file at t h)

next_above : (file : List ℕ) (at t : ℕ) → right_at file at t ≡ true → {next : ℕ} → next ≡ next_at file at → at + 1 ≤ next
unfolding next_at
next_above file at t h e = omega (arith, whole file at t h)

pub loop-end-init : goal.loop-end-init
unfolding offset_of
loop-end-init c = (refl, (λ i h. absurd (omega arith)), omega arith)

pub overflow_add-count : goal.overflow_add-count
overflow_add-count c =
    omega (
      arith,
      whole c.args.file.now c.loop-end.end c.args.tag
          (sym c.right_at.ensures ∙ c.loop-end-test.true),
    )

pub loop-end-smaller : goal.loop-end-smaller
loop-end-smaller c =
    next_more c.args.file.now c.loop-end.end c.args.tag
    (sym c.right_at.ensures ∙ c.loop-end-test.true) c.next_at-end.ensures

pub loop-end-preserved : goal.loop-end-preserved
unfolding offset_of
loop-end-preserved c = (
  c.next_at-end.ensures ∙ rw (add-one, ← c.loop-end.invariant.0) refl,
  below_more _ _ c.loop-end.invariant.1 (rw (← c.loop-end.invariant.0) (sym c.right_at.ensures ∙ c.loop-end-test.true)),
  omega (
    arith,
    next_above c.args.file.now c.loop-end.end c.args.tag
        (sym c.right_at.ensures ∙ c.loop-end-test.true) c.next_at-end.ensures,
  ),
)

pub returns : goal.returns
returns c = record { ends = c.loop-end.invariant.0; each = c.loop-end.invariant.1; stops = sym c.right_at.ensures ∙ c.loop-end-test.false }
