-- Zeros behind a list of captures.
use Prim.Native.Nat.{ℕ, ◌*◌, ◌≤◌, ◌<◌}
use mathlib.Core.Path.{◌≡◌, refl, ◌∙◌}
use mathlib.Core.List.{List}
use lib.ListN.{length, get_or, take, length-take}
use lib.Seq.{get_or-take, ext_get_or}
use native.Mathlib.Omega.{arith}
use Rattle.columns.specs.declared.Capture.{Capture}
use Rattle.table.specs.Words.{each_words}
use Rattle.clauses.specs.ListAnswer.{capture_words, list_words}
use Rattle.capture_list.specs.Put.{cleared_from}
use Rattle.clauses.proofs.ListWords.{words_long}

-- A list of captures in front of zeros.
pub list_is :
    (cs : List Capture) (lent : ℕ) (l : List ℕ)
    → length l ≡ lent
    → length cs * 4 ≤ lent
    → ((i : ℕ) → i < length cs * 4 → get_or l i 0 ≡ get_or (each_words capture_words cs) i 0)
    → cleared_from (length cs * 4) l ≡ list_words cs lent
unfolding cleared_from
list_is cs lent l e f h = rw (e, front) refl
  where
    front : take (length cs * 4) l ≡ each_words capture_words cs
    front =
        let m = words_long cs in
        let n = length-take (length cs * 4) l in
        ext_get_or 0 (take (length cs * 4) l) (each_words capture_words cs) (omega arith)
        (λ i b. get_or-take (length cs * 4) l i 0 (omega arith) ∙ h i (omega arith))
