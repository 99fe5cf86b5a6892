-- The rules of a node from the facts of its first child and of b.
use Prim.Native.Nat.{ℕ, zero, suc}
use mathlib.Core.Path.{◌≡◌, refl, ap₂, fun_ext, ◌∙◌}
use mathlib.Core.Bool.{Bool}
use mathlib.Core.List.{List, [], ◌∷◌}
use Rattle.table.specs.Form.{form, decode, kind_of, a_of, b_of, relation_of}
use Rattle.well_formed.specs.Facts.{Fact, nothing, something, fails}
use Rattle.well_formed.specs.Rounds.{gives, passes}
use Rattle.form_facts.specs.OneForm.{two}
use Rattle.well_formed.specs.InternalPasses.{first_child}

module _ (rules : List ℕ) where
  decoded_gives : (known : Fact → ℕ → Bool) (k a b r : ℕ) (x : Fact)
      → gives (0 ∷ []) (λ y. two (known y (first_child rules k a)) (known y b)) (decode k 0 1 0) x ≡ gives rules known (decode k a b r) x
  unfolding gives
  decoded_gives known zero a b r nothing = refl
  decoded_gives known zero a b r something = refl
  decoded_gives known zero a b r fails = refl
  decoded_gives known (suc zero) a b r nothing = refl
  decoded_gives known (suc zero) a b r something = refl
  decoded_gives known (suc zero) a b r fails = refl
  decoded_gives known (suc (suc zero)) a b r x = refl
  decoded_gives known (suc (suc (suc zero))) a b r nothing = refl
  decoded_gives known (suc (suc (suc zero))) a b r something = refl
  decoded_gives known (suc (suc (suc zero))) a b r fails = refl
  decoded_gives known (suc (suc (suc (suc zero)))) a b r nothing = refl
  decoded_gives known (suc (suc (suc (suc zero)))) a b r something = refl
  decoded_gives known (suc (suc (suc (suc zero)))) a b r fails = refl
  decoded_gives known (suc (suc (suc (suc (suc zero))))) a b r nothing = refl
  decoded_gives known (suc (suc (suc (suc (suc zero))))) a b r something = refl
  decoded_gives known (suc (suc (suc (suc (suc zero))))) a b r fails = refl
  decoded_gives known (suc (suc (suc (suc (suc (suc zero)))))) a b r nothing = refl
  decoded_gives known (suc (suc (suc (suc (suc (suc zero)))))) a b r something = refl
  decoded_gives known (suc (suc (suc (suc (suc (suc zero)))))) a b r fails = refl
  decoded_gives known (suc (suc (suc (suc (suc (suc (suc zero))))))) a b r x = refl
  decoded_gives known (suc (suc (suc (suc (suc (suc (suc (suc zero)))))))) a b r x = refl
  decoded_gives known (suc (suc (suc (suc (suc (suc (suc (suc (suc zero))))))))) a b r x = refl
  decoded_gives known (suc (suc (suc (suc (suc (suc (suc (suc (suc (suc k)))))))))) a b r x = refl

  decoded_passes : (may well : ℕ → Bool) (k a b r : ℕ)
      → passes (0 ∷ []) (λ m. may (first_child rules k a)) (two (well (first_child rules k a)) (well b)) (decode k 0 1 0) ≡ passes rules may well (decode k a b r)
  unfolding passes
  decoded_passes may well zero a b r = refl
  decoded_passes may well (suc zero) a b r = refl
  decoded_passes may well (suc (suc zero)) a b r = refl
  decoded_passes may well (suc (suc (suc zero))) a b r = refl
  decoded_passes may well (suc (suc (suc (suc zero)))) a b r = refl
  decoded_passes may well (suc (suc (suc (suc (suc zero))))) a b r = refl
  decoded_passes may well (suc (suc (suc (suc (suc (suc zero)))))) a b r = refl
  decoded_passes may well (suc (suc (suc (suc (suc (suc (suc zero))))))) a b r = refl
  decoded_passes may well (suc (suc (suc (suc (suc (suc (suc (suc zero)))))))) a b r = refl
  decoded_passes may well (suc (suc (suc (suc (suc (suc (suc (suc (suc zero))))))))) a b r = refl
  decoded_passes may well (suc (suc (suc (suc (suc (suc (suc (suc (suc (suc k)))))))))) a b r = refl

module _ (nodes rules : List ℕ) (n : ℕ) where
  abbrev child : ℕ
  child = first_child rules (kind_of nodes n) (a_of nodes n)

  -- What a node of kind k gives, from the facts of its first child and of b.
  pub node_gives :
      (known : Fact → ℕ → Bool) {k : ℕ} (first second : Fact → Bool)
      → k ≡ kind_of nodes n
      → ((y : Fact) → first y ≡ known y child)
      → ((y : Fact) → second y ≡ known y (b_of nodes n))
      → (x : Fact)
      → gives (0 ∷ []) (λ y. two (first y) (second y)) (decode k 0 1 0) x
      ≡ gives rules known (form nodes n) x
  unfolding form
  node_gives known first second q e d x =
      rw q
      (ap₂ (λ (f g : Fact → Bool). gives (0 ∷ []) (λ y. two (f y) (g y)) (decode (kind_of nodes n) 0 1 0) x) (fun_ext e) (fun_ext d)
      ∙ decoded_gives rules known (kind_of nodes n) (a_of nodes n) (b_of nodes n) (relation_of nodes n) x)

  -- Whether a node of kind k passes, from its first child and b.
  pub node_passes : (may well : ℕ → Bool) {k : ℕ} (a m b : Bool) → k ≡ kind_of nodes n → a ≡ well child → m ≡ may child → b ≡ well (b_of nodes n)
      → passes (0 ∷ []) (λ i. m) (two a b) (decode k 0 1 0) ≡ passes rules may well (form nodes n)
  unfolding form
  node_passes may well a m b o p q s = rw (o, p, q, s) (decoded_passes rules may well (kind_of nodes n) (a_of nodes n) (b_of nodes n) (relation_of nodes n))
