-- Laws of `tabulate`: its length, its elements, and a list told by its elements. And what holds of each thing in a list, which
-- goes with lists put together and taken apart.
use Prim.Native.Nat.{ℕ, zero, suc, ◌<◌}
use mathlib.Core.Path.{◌≡◌, refl, sym, ap, ap₂, ◌∙◌}
use mathlib.Core.List.{List, [], ◌∷◌, ◌++◌, map, map-append}
use mathlib.Core.Logic.{⊎_elim}
use native.Mathlib.Nat.{eq-or-lt_of_le, le_of_suc-le-suc}
use native.Mathlib.Omega.{arith}
use lib.ListN.{length, get_or, get_or-append}
use lib.Seq.{get_or_at, ext_get_or}
use Rattle.table.specs.Words.{tabulate}
use Rattle.table.proofs.Words.{length_tabulate}

module _ {A : Type 0} where
  -- The ith is what the function gives of i.
  tabulate_at : (k : ℕ) (f : ℕ → A) (i : ℕ) (d : A) → i < k → get_or (tabulate k f) i d ≡ f i
  unfolding tabulate
  tabulate_at zero f i d h = absurd (omega arith)
  tabulate_at (suc k) f i d h =
      ⊎_elim
      (λ e. rw e (get_or_at (tabulate k f) (f k) [] d k (length_tabulate k f)))
      (λ a. get_or-append (tabulate k f) (f k ∷ []) d i (rw (length_tabulate k f) a) ∙ tabulate_at k f i d a)
      (eq-or-lt_of_le (le_of_suc-le-suc h))

  -- Two functions that agree below k.
  pub tabulate_same : (k : ℕ) (f g : ℕ → A) → ((i : ℕ) → i < k → f i ≡ g i) → tabulate k f ≡ tabulate k g
  unfolding tabulate
  tabulate_same zero f g h = refl
  tabulate_same (suc k) f g h = ap₂ (λ (l : List A) (x : A). l ++ (x ∷ [])) (tabulate_same k f g (λ i a. h i (omega arith))) (h k (omega arith))

  -- The elements of a list, by their numbers, are the list.
  pub tabulate_list : (l : List A) (k : ℕ) (d : A) → length l ≡ k → tabulate k (λ i. get_or l i d) ≡ l
  tabulate_list l k d e =
      ext_get_or d (tabulate k (λ i. get_or l i d)) l (length_tabulate k (λ i. get_or l i d) ∙ sym e)
      (λ i h. tabulate_at k (λ i. get_or l i d) i d (rw (length_tabulate k (λ i. get_or l i d)) at h))

  -- What another function makes of each.
  pub tabulate_map : {B : Type 0} (g : A → B) (k : ℕ) (f : ℕ → A) → map g (tabulate k f) ≡ tabulate k (λ i. g (f i))
  unfolding tabulate
  tabulate_map g zero f = refl
  tabulate_map g (suc k) f = map-append g (tabulate k f) (f k ∷ []) ∙ ap (λ (l : List _). l ++ (g (f k) ∷ [])) (tabulate_map g k f)

  -- Something holds of each thing in a list.
  abbrev pub Each : (A → Type 0) → List A → Type 0
  Each P [] = Unit
  Each P (x ∷ xs) = P x × Each P xs

  module _ (P : A → Type 0) where
    -- It holds of each in two lists, and so in both together.
    pub each_append : (xs ys : List A) → Each P xs → Each P ys → Each P (xs ++ ys)
    each_append [] ys p q = q
    each_append (x ∷ xs) ys p q = (p.0, each_append xs ys p.1 q)

    -- It holds of each in both together, and so in the first.
    pub each_front : (xs ys : List A) → Each P (xs ++ ys) → Each P xs
    each_front [] ys p = tt
    each_front (x ∷ xs) ys p = (p.0, each_front xs ys p.1)

    -- And in the second.
    pub each_back : (xs ys : List A) → Each P (xs ++ ys) → Each P ys
    each_back [] ys p = p
    each_back (x ∷ xs) ys p = each_back xs ys p.1

    -- It holds of what a function gives of each number below k.
    pub each_tabulate : (k : ℕ) (f : ℕ → A) → ((i : ℕ) → i < k → P (f i)) → Each P (tabulate k f)
    unfolding tabulate
    each_tabulate zero f h = tt
    each_tabulate (suc k) f h = each_append (tabulate k f) (f k ∷ []) (each_tabulate k f (λ i a. h i (omega arith))) (h k (omega arith), tt)

    -- It holds of the ith.
    pub each_at : (xs : List A) → Each P xs → (i : ℕ) (d : A) → i < length xs → P (get_or xs i d)
    each_at [] e i d h = absurd (omega arith)
    each_at (x ∷ xs) e zero d h = e.0
    each_at (x ∷ xs) e (suc i) d h = each_at xs e.1 i d (omega arith)

  -- What two lists of facts say of each.
  pub each_both : (P Q : A → Type 0) (xs : List A) → Each P xs → Each Q xs → Each (λ x. P x × Q x) xs
  each_both P Q [] p q = tt
  each_both P Q (x ∷ xs) p q = ((p.0, q.0), each_both P Q xs p.1 q.1)

  -- A list, by what a function gives of the number of each.
  pub tabulate_each : (l : List A) (k : ℕ) (f : ℕ → A) (d : A) → length l ≡ k → ((i : ℕ) → i < length l → f i ≡ get_or l i d) → tabulate k f ≡ l
  tabulate_each l k f d e h = tabulate_same k f (λ i. get_or l i d) (λ i a. h i (rw e a)) ∙ tabulate_list l k d e
