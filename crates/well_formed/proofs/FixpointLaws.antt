-- Rounds of a monotone step over finitely many cells: as many rounds as there are cells find all that any number finds.
use Prim.Native.Nat.{ℕ, zero, suc, ◌+◌, ◌≤◌, ◌<◌}
use mathlib.Core.Path.{◌≡◌, refl, sym, ◌∙◌}
use mathlib.Core.Bool.{Bool, true, false, cond, false≢true}
use mathlib.Core.List.{List, [], ◌∷◌}
use mathlib.Core.Logic.{◌⊎◌, inl, inr}
use lib.ListN.{length}
use native.Mathlib.Omega.{arith}
use Rattle.table.proofs.Orders.{le_or_lt}

-- What holds of every cell of a list.
pub data Each {C : Type 0} (P : C → Type 0) : List C → Type 0 where
  each_none : Each P []
  each_more : {c : C} {cs : List C} → P c → Each P cs → Each P (c ∷ cs)

-- How many cells are not yet found.
unfoldable pub missing : {C : Type 0} → (C → Bool) → List C → ℕ
missing found [] = 0
missing found (c ∷ cs) = cond (found c) 0 1 + missing found cs

module _ {C : Type 0} where
  -- More is found than before.
  abbrev pub More : (C → Bool) → (C → Bool) → Type 0
  More p q = (c : C) → p c ≡ true → q c ≡ true

  missing_less : (p q : C → Bool) → More p q → (cs : List C) → missing q cs ≤ missing p cs
  unfolding missing
  missing_less p q m [] = omega arith
  missing_less p q m (c ∷ cs) = by_test (p c) (q c) refl refl (missing_less p q m cs)
    where
      by_test : (a b : Bool) → p c ≡ a → q c ≡ b → missing q cs ≤ missing p cs → cond (q c) 0 1 + missing q cs ≤ cond (p c) 0 1 + missing p cs
      by_test true b e f h = rw (e, m c e) h'
        where
          h' : 0 + missing q cs ≤ 0 + missing p cs
          h' = omega arith
      by_test false true e f h = rw (e, f) (omega arith)
      by_test false false e f h = rw (e, f) (omega arith)

  -- Where no fewer are missing, nothing was found that was not known.
  pub same_found : (p q : C → Bool) → More p q → (cs : List C) → missing p cs ≤ missing q cs → Each (λ c. q c ≡ p c) cs
  unfolding missing
  same_found p q m [] h = each_none
  same_found p q m (c ∷ cs) h = by_test (p c) (q c) refl refl (missing_less p q m cs) (λ k. same_found p q m cs k)
    where
      by_test :
          (a b : Bool)
          → p c ≡ a
          → q c ≡ b
          → missing q cs ≤ missing p cs
          → (missing p cs ≤ missing q cs → Each (λ d. q d ≡ p d) cs)
          → Each (λ d. q d ≡ p d) (c ∷ cs)
      by_test true b e f l again = let k : 0 + missing p cs ≤ 0 + missing q cs = rw (e, m c e) at h in each_more (m c e ∙ sym e) (again (omega arith))
      by_test false true e f l again = let k : 1 + missing p cs ≤ 0 + missing q cs = rw (e, f) at h in absurd (omega arith)
      by_test false false e f l again = let k : 1 + missing p cs ≤ 1 + missing q cs = rw (e, f) at h in each_more (f ∙ sym e) (again (omega arith))

  missing_most : (p : C → Bool) (cs : List C) → missing p cs ≤ length cs
  unfolding missing
  missing_most p [] = omega arith
  missing_most p (c ∷ cs) = by_test (p c) (missing_most p cs)
    where
      by_test : (b : Bool) → missing p cs ≤ length cs → cond b 0 1 + missing p cs ≤ suc (length cs)
      by_test true h = omega arith
      by_test false h = omega arith

  -- Where none is missing, every cell is found.
  none_missing : (p : C → Bool) (cs : List C) → missing p cs ≤ 0 → Each (λ c. p c ≡ true) cs
  unfolding missing
  none_missing p [] h = each_none
  none_missing p (c ∷ cs) h = by_test (p c) refl (λ k. none_missing p cs k)
    where
      by_test : (b : Bool) → p c ≡ b → (missing p cs ≤ 0 → Each (λ d. p d ≡ true) cs) → Each (λ d. p d ≡ true) (c ∷ cs)
      by_test true e again = let k : 0 + missing p cs ≤ 0 = rw e at h in each_more e (again (omega arith))
      by_test false e again = let k : 1 + missing p cs ≤ 0 = rw e at h in absurd (omega arith)

  each_map : {P Q : C → Type 0} → ((c : C) → P c → Q c) → {cs : List C} → Each P cs → Each Q cs
  each_map f each_none = each_none
  each_map f (each_more {c = c} p e) = each_more (f c p) (each_map f e)

  -- Rounds of a step that finds more from more, and from the cells alone.
  module _ (step : (C → Bool) → C → Bool) (more : (p q : C → Bool) → More p q → More (step p) (step q)) (cells : List C)
      (local : (p q : C → Bool) → Each (λ c. p c ≡ q c) cells → Each (λ c. step p c ≡ step q c) cells) where
    unfoldable pub rounds : ℕ → C → Bool
    rounds zero c = false
    rounds (suc k) c = step (rounds k) c

    grows : (k : ℕ) → More (rounds k) (rounds (suc k))
    unfolding rounds
    grows zero c e = absurd (false≢true e)
    grows (suc k) c e = more (rounds k) (rounds (suc k)) (grows k) c e

    abbrev Settled : ℕ → Type 0
    Settled k = Each (λ c. rounds (suc k) c ≡ rounds k c) cells

    stays : (k : ℕ) → Settled k → Settled (suc k)
    unfolding rounds
    stays k e = local (rounds (suc k)) (rounds k) e

    -- After each round either nothing more is found, or a cell less is missing.
    settles : (k : ℕ) → Settled k ⊎ (missing (rounds k) cells + k ≤ length cells)
    settles zero = inr (let h = missing_most (rounds zero) cells in omega arith)
    settles (suc k) = by_last (settles k) (le_or_lt (missing (rounds k) cells) (missing (rounds (suc k)) cells))
      where
        by_last :
            Settled k ⊎ (missing (rounds k) cells + k ≤ length cells)
            → (missing (rounds k) cells ≤ missing (rounds (suc k)) cells)
            ⊎ (missing (rounds (suc k)) cells < missing (rounds k) cells)
            → Settled (suc k) ⊎ (missing (rounds (suc k)) cells + suc k ≤ length cells)
        by_last (inl e) l = inl (stays k e)
        by_last (inr h) (inl l) = inl (stays k (same_found (rounds k) (rounds (suc k)) (grows k) cells l))
        by_last (inr h) (inr l) = inr (omega arith)

    -- As many rounds as there are cells are enough.
    pub settled : Settled (length cells)
    settled = by_last (settles (length cells))
      where
        by_last : Settled (length cells) ⊎ (missing (rounds (length cells)) cells + length cells ≤ length cells) → Settled (length cells)
        by_last (inl e) = e
        by_last (inr h) = each_map (λ c e. grows (length cells) c e ∙ sym e) (none_missing (rounds (length cells)) cells (omega arith))
