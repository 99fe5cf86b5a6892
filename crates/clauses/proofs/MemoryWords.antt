-- The words that are lent to remember outcomes in, afterwards: zeros, or as they were.
use Prim.Native.Nat.{ℕ}
use mathlib.Core.Path.{◌≡◌, refl, ap, ◌∙◌}
use mathlib.Core.List.{List, ◌++◌, append-nil}
use lib.ListN.{length, drop, replicate, length-replicate, drop_of_length-le}
use native.Mathlib.Omega.{arith}
use Rattle.table.specs.Answer.{given, refused, refused_at}
use Rattle.columns.specs.declared.Start.{Start}
use Rattle.columns.specs.declared.Reading.{Reading}
use Rattle.clauses.specs.RunAnswer.{Ended, run_answer}
use Rattle.clauses.specs.Remembering.{memory_after}

module _ (reading : Reading) (nodes rules words : List ℕ) (start : Start) (m : List ℕ) where
  -- "after an unrefused run all its words are 0".
  pub memory_given : {x : Ended} → given x ≡ run_answer reading nodes rules words start → memory_after reading nodes rules words start m ≡ replicate (length m) 0
  unfolding memory_after
  memory_given e = rw (← e) all
    where
      zeros : List ℕ
      zeros = replicate (length m) 0

      all : zeros ++ drop (length zeros) m ≡ zeros
      all =
          let k = length-replicate {A = ℕ} (length m) 0 in
          ap (λ (l : List ℕ). zeros ++ l) (drop_of_length-le m {i = length zeros} (omega arith)) ∙ append-nil zeros

  -- A refused call leaves them as they were.
  pub memory_refused : {number : ℕ} → refused number ≡ run_answer reading nodes rules words start → m ≡ memory_after reading nodes rules words start m
  unfolding memory_after
  memory_refused e = rw (← e) refl

  pub memory_named : {number node : ℕ} → refused_at number node ≡ run_answer reading nodes rules words start → m ≡ memory_after reading nodes rules words start m
  unfolding memory_after
  memory_named e = rw (← e) refl
