-- The words of a list of captures: how many, and that a list for which there is room fills its slice.
use Prim.Native.Nat.{ℕ, ◌-◌, ◌*◌, ◌≤◌}
use mathlib.Core.Path.{◌≡◌, refl, ap, ◌∙◌}
use mathlib.Core.List.{List, ◌++◌, append-nil}
use lib.ListN.{length, drop, replicate, length-append, length-replicate, drop_of_length-le}
use native.Mathlib.Omega.{arith}
use Rattle.table.specs.Words.{each_words}
use Rattle.table.proofs.Words.{length_words}
use Rattle.columns.specs.declared.Capture.{Capture}
use Rattle.clauses.specs.ListAnswer.{capture_words, list_words}

pub words_long : (cs : List Capture) → length (each_words capture_words cs) ≡ length cs * 4
words_long cs = length_words capture_words (λ c. refl) cs

pub length_list : (cs : List Capture) (lent : ℕ) → length cs * 4 ≤ lent → length (list_words cs lent) ≡ lent
length_list cs lent f =
    let a = length-append (each_words capture_words cs) (replicate (lent - length cs * 4) 0) in
    let b = words_long cs in
    let d = length-replicate {A = ℕ} (lent - length cs * 4) 0 in
    omega arith

-- Nothing of the slice is left behind it.
pub list_fills :
    (cs : List Capture) (before : List ℕ)
    → length cs * 4 ≤ length before
    → list_words cs (length before) ++ drop (length (list_words cs (length before))) before ≡ list_words cs (length before)
list_fills cs before f =
    ap (λ (l : List ℕ). list_words cs (length before) ++ l)
    (drop_of_length-le before {i = length (list_words cs (length before))} (omega (arith, length_list cs (length before) f)))
    ∙ append-nil (list_words cs (length before))
