-- At each reading the runs are those of its paper, in any column domain: by 2017 the clauses 8 and 10 of 001, by 2014 the rules
-- of 000, figure 6, for indentation and for absolute alignment. No other clause names the reading.
use Prim.Native.Nat.{ℕ}
use mathlib.Core.Path.{◌≡◌, refl, sym, subst, ◌∙◌}
use mathlib.Core.Bool.{Bool, true, false, ◌&&◌, true≢false}
use mathlib.Core.List.{List}
use mathlib.Core.Logic.{◌↔◌}
use Rattle.table.specs.Form as table
use Rattle.table.specs.Form.{Form, form}
use Rattle.columns.specs.Domain.{Domain}
use Rattle.columns.specs.declared.Reading.{Reading}
use Rattle.columns.specs.declared.Reading.TheVariants.{By2017, By2014}
use Rattle.clauses.specs.Clauses.{Tokens, State, Outcome, success, failure, counts, Run, indent, indent_fails}
use Rattle.clauses.specs.Clauses.{indent_through, align, align_fails}

module _ {ℓ κ} (D : Domain {ℓ, κ}) (nodes rules : List ℕ) (tokens : Tokens) where
  -- A success at a state that is the same.
  at_same :
      (reading : Reading) (τ : ℕ) (f : Form) (s s' t : State D.Columns)
      → s' ≡ t
      → Run D reading nodes rules tokens τ f s (success t)
      → Run D reading nodes rules tokens τ f s (success s')
  at_same reading τ f s s' t e d = subst (λ (u : State D.Columns). Run D reading nodes rules tokens τ f s (success u)) (sym e) d

  -- There are w', I' and b' with p, τ ⊢ (w, ρ⁻¹(I), b) → ⊤(w', I', b') and s' = (w', I ∩ ρ(I'), b').
  abbrev pub ByIndented : Reading → (τ p ρ w : ℕ) → D.Columns → Bool → State D.Columns → Type (ℓ ⊔ κ)
  ByIndented reading τ p ρ w I b s' =
      (w' : ℕ)
      × (I' : D.Columns)
      × (b' : Bool)
      × Run D reading nodes rules tokens τ (form nodes p) (w, D.inner ρ I, b) (success (w', I', b'))
      × (s' ≡ (w', D.meet I (D.outer ρ I'), b'))

  -- There are w', I' and b' with p, τ ⊢ (w, I, tt) → ⊤(w', I', b') and s' = (w', I', b ∧ b'), by 2017.
  abbrev pub ByAligned : (τ p w : ℕ) → D.Columns → Bool → State D.Columns → Type (ℓ ⊔ κ)
  ByAligned τ p w I b s' =
      (w' : ℕ)
      × (I' : D.Columns)
      × (b' : Bool)
      × Run D By2017 nodes rules tokens τ (form nodes p) (w, I, true) (success (w', I', b'))
      × (s' ≡ (w', I', b && b'))

  -- Where indentation counts.
  module _ (reading : Reading) (τ p ρ w : ℕ) (I : D.Columns) (b : Bool) (c : counts reading b ≡ true) where
    to_indented : {s' : State D.Columns} → Run D reading nodes rules tokens τ (table.indent p ρ) (w, I, b) (success s') → ByIndented reading τ p ρ w I b s'
    to_indented (indent {w' = w'} {I' = I'} {b' = b'} k d) = (w', I', b', d, refl)
    to_indented (indent_through k d) = absurd (true≢false (sym c ∙ k))

    of_indented : (s' : State D.Columns) → ByIndented reading τ p ρ w I b s' → Run D reading nodes rules tokens τ (table.indent p ρ) (w, I, b) (success s')
    of_indented s' h = at_same reading τ (table.indent p ρ) (w, I, b) s' _ h.4 (indent c h.3)

    to_indented_fails : Run D reading nodes rules tokens τ (table.indent p ρ) (w, I, b) failure → Run D reading nodes rules tokens τ (form nodes p) (w, D.inner ρ I, b) failure
    to_indented_fails (indent_fails k d) = d
    to_indented_fails (indent_through k d) = absurd (true≢false (sym c ∙ k))

  module _ (τ p ρ w : ℕ) (I : D.Columns) where
    -- By 2017, clause 8: an indent succeeds as its child does from ρ⁻¹(I), and leaves I ∩ ρ(I'),
    pub indent_2017 :
        (b : Bool) (s' : State D.Columns)
        → Run D By2017 nodes rules tokens τ (table.indent p ρ) (w, I, b) (success s') ↔ ByIndented By2017 τ p ρ w I b s'
    indent_2017 b s' = (to_indented By2017 τ p ρ w I b refl, of_indented By2017 τ p ρ w I b refl s')

    -- and fails where its child does.
    pub indent_fails_2017 :
        (b : Bool)
        → Run D By2017 nodes rules tokens τ (table.indent p ρ) (w, I, b) failure
        ↔ Run D By2017 nodes rules tokens τ (form nodes p) (w, D.inner ρ I, b) failure
    indent_fails_2017 b = (to_indented_fails By2017 τ p ρ w I b refl, λ d. indent_fails refl d)

    -- By 2014, figure 6: under a clear flag an indent succeeds as by 2017,
    pub indent_2014 :
        (s' : State D.Columns)
        → Run D By2014 nodes rules tokens τ (table.indent p ρ) (w, I, false) (success s') ↔ ByIndented By2014 τ p ρ w I false s'
    indent_2014 s' = (to_indented By2014 τ p ρ w I false refl, of_indented By2014 τ p ρ w I false refl s')

    -- and fails where its child does,
    pub indent_fails_2014 :
        Run D By2014 nodes rules tokens τ (table.indent p ρ) (w, I, false) failure
        ↔ Run D By2014 nodes rules tokens τ (form nodes p) (w, D.inner ρ I, false) failure
    indent_fails_2014 = (to_indented_fails By2014 τ p ρ w I false refl, λ d. indent_fails refl d)

    through : {o : Outcome D.Columns} → Run D By2014 nodes rules tokens τ (table.indent p ρ) (w, I, true) o → Run D By2014 nodes rules tokens τ (form nodes p) (w, I, true) o
    through (indent c d) = absurd (true≢false (sym c))
    through (indent_fails c d) = absurd (true≢false (sym c))
    through (indent_through c d) = d

    -- and under a set flag it does what its child does.
    pub indent_through_2014 :
        (o : Outcome D.Columns)
        → Run D By2014 nodes rules tokens τ (table.indent p ρ) (w, I, true) o ↔ Run D By2014 nodes rules tokens τ (form nodes p) (w, I, true) o
    indent_through_2014 o = (through, λ d. indent_through refl d)

  module _ (τ p w : ℕ) (I : D.Columns) (b : Bool) where
    to_aligned : {s' : State D.Columns} → Run D By2017 nodes rules tokens τ (table.align p) (w, I, b) (success s') → ByAligned τ p w I b s'
    to_aligned (align {w' = w'} {I' = I'} {b' = b'} d) = (w', I', b', d, refl)

    -- By 2017, clause 10: an align succeeds as its child does under a set flag, and leaves b ∧ b',
    pub align_2017 : (s' : State D.Columns) → Run D By2017 nodes rules tokens τ (table.align p) (w, I, b) (success s') ↔ ByAligned τ p w I b s'
    align_2017 s' = (to_aligned, λ h. at_same By2017 τ (table.align p) (w, I, b) s' _ h.4 (align h.3))

    to_aligned_fails : Run D By2017 nodes rules tokens τ (table.align p) (w, I, b) failure → Run D By2017 nodes rules tokens τ (form nodes p) (w, I, true) failure
    to_aligned_fails (align_fails d) = d

    -- and fails where its child does.
    pub align_fails_2017 :
        Run D By2017 nodes rules tokens τ (table.align p) (w, I, b) failure ↔ Run D By2017 nodes rules tokens τ (form nodes p) (w, I, true) failure
    align_fails_2017 = (to_aligned_fails, λ d. align_fails d)

    to_child : {o : Outcome D.Columns} → Run D By2014 nodes rules tokens τ (table.align p) (w, I, b) o → Run D By2014 nodes rules tokens τ (form nodes p) (w, I, true) o
    to_child (align d) = d
    to_child (align_fails d) = d

    of_child : (o : Outcome D.Columns) → Run D By2014 nodes rules tokens τ (form nodes p) (w, I, true) o → Run D By2014 nodes rules tokens τ (table.align p) (w, I, b) o
    of_child (success (w', I', b')) d = align d
    of_child failure d = align_fails d

    -- By 2014, figure 6: an align does what its child does under a set flag.
    pub align_2014 :
        (o : Outcome D.Columns)
        → Run D By2014 nodes rules tokens τ (table.align p) (w, I, b) o ↔ Run D By2014 nodes rules tokens τ (form nodes p) (w, I, true) o
    align_2014 o = (to_child, of_child o)
