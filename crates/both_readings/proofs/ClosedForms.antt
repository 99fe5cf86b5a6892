-- A set of forms with flags that has with each of its forms all that is entered from there. `HeldForms` has what it is for.
use Prim.Native.Nat.{ℕ}
use mathlib.Core.Bool.{Bool, true, false}
use mathlib.Core.List.{List}
use Rattle.table.specs.Form as table
use Rattle.table.specs.Form.{Form, form, stands_for}
use Rattle.well_formed.specs.Facts.{nothing, something, fails, May}

module _ (nodes rules : List ℕ) (Held : Form → Bool → Type 0) where
  -- All that is entered from a form of the set is in the set.
  pub record Closed : Type 0 where
    pub in_rule : (x : ℕ) (b : Bool) → Held (table.rule x) b → Held (form nodes (stands_for rules x)) b
    pub in_first : (p q : ℕ) (b : Bool) → Held (table.sequence p q) b → Held (form nodes p) b
    pub in_unread : (p q : ℕ) (b : Bool) → Held (table.sequence p q) b → May nodes rules (form nodes p) nothing → Held (form nodes q) b
    pub in_read : (p q : ℕ) (b : Bool) → Held (table.sequence p q) b → May nodes rules (form nodes p) something → Held (form nodes q) false
    pub in_choice : (p q : ℕ) (b : Bool) → Held (table.choice p q) b → Held (form nodes p) b
    pub in_second : (p q : ℕ) (b : Bool) → Held (table.choice p q) b → May nodes rules (form nodes p) fails → Held (form nodes q) b
    pub in_not : (p : ℕ) (b : Bool) → Held (table.not p) b → Held (form nodes p) b
    pub in_round : (p : ℕ) (b : Bool) → Held (table.repeat p) b → Held (form nodes p) b
    pub in_again : (p : ℕ) (b : Bool) → Held (table.repeat p) b → May nodes rules (form nodes p) something → Held (table.repeat p) false
    pub in_indent : (p ρ : ℕ) (b : Bool) → Held (table.indent p ρ) b → Held (form nodes p) b
    pub in_position : (p σ : ℕ) (b : Bool) → Held (table.position p σ) b → Held (form nodes p) b
    pub in_align : (p : ℕ) (b : Bool) → Held (table.align p) b → Held (form nodes p) true
