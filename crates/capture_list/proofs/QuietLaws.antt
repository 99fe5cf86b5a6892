-- Where nothing is listed: once the count has stopped, and so inside a not.
use Prim.Native.Nat.{ℕ}
use mathlib.Core.Path.{◌≡◌, refl, sym, ap, ◌∙◌}
use mathlib.Core.Bool.{Bool, true, false, cond, true≢false}
use mathlib.Core.List.{List}
use lib.Dec.{eqb}
use native.Mathlib.Omega.{arith}
use borrow.Author.Tests.{ne_eqb, eqb-true}
use Rattle.clauses.specs.Trace.{Trace}
use Rattle.capture_list.specs.Put.{most_count, quiet_in, hushed}
use Rattle.capture_list.specs.declared.Counts.{Counts}
use Rattle.capture_list.specs.InternalList.{with_counts, Room, Keeps, Lists}

-- A success that is not put back lists nothing only where the count has stopped.
pub quiet_count : (q n : ℕ) → quiet_in q n ≡ true → eqb q 5 ≡ false → n ≡ most_count
quiet_count q n e f = by_test (eqb n most_count) refl e
  where
    by_test : (t : Bool) → eqb n most_count ≡ t → cond t true (eqb q 5) ≡ true → n ≡ most_count
    by_test true p k = eqb-true n most_count p
    by_test false p k = absurd (true≢false (sym k ∙ f))

-- Outside a not the counts stay.
pub not_hushed : (q : ℕ) (c : Counts) → (q ≡ 5 → ⊥) → c ≡ hushed q c
not_hushed q c h = sym (ap (λ (t : Bool). cond t (with_counts c.around most_count) c) (ne_eqb q 5 h))

module _ {levels : ℕ} {c : Counts} {l : List ℕ} (room : Room levels c l) where
  -- Whatever a trace shows, nothing is counted and nothing written.
  pub lists_quiet : c.so_far ≡ most_count → (t : Trace) → Lists t c l c l
  lists_quiet e t =
      record {
        keeps = record { around = refl; long = refl; before = λ i b. refl };
        count = omega (arith, e);
        there = λ f i b. absurd (omega (arith, e, room.long));
      }

  -- Inside a node: the counts are right, and what is kept there is kept.
  pub room_hushed : (q : ℕ) → Room levels (hushed q c) l
  room_hushed q = by_test (eqb q 5)
    where
      by_test : (t : Bool) → Room levels (cond t (with_counts c.around most_count) c) l
      by_test true = record { deep = room.deep; count = omega arith; long = room.long }
      by_test false = room

  pub keeps_hushed : (q : ℕ) {c' : Counts} {l' : List ℕ} → Keeps (hushed q c) l c' l' → Keeps c l c' l'
  keeps_hushed q {c'} {l'} x = by_test (eqb q 5) x
    where
      by_test : (t : Bool) → Keeps (cond t (with_counts c.around most_count) c) l c' l' → Keeps c l c' l'
      by_test true y = record { around = y.around; long = y.long; before = λ i b. y.before i (omega (arith, room.count)) }
      by_test false y = y
