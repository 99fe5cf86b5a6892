-- When both readings of a grammar agree (02, Note 5), by looking at the grammar alone: what an align encloses is under a set
-- flag until a token is read. Where no indent can be met under a set flag, and no align under a clear one can succeed without
-- reading, a run is the same by 001 and by 000 (`same_run`, in proofs).
use Rattle.std.specs.Prelude.{ℕ, Bool, true, false, List}
use Rattle.table.specs.Form as table
use Rattle.table.specs.Form.{Form, form, stands_for}
use Rattle.well_formed.specs.Facts.{nothing, something, fails, May}

-- Entered f b: from form f₀ under flag b₀ a run may come to form f under flag b. A constructor for each way down.
pub data Entered (nodes rules : List ℕ) (f₀ : Form) (b₀ : Bool) : Form → Bool → Type 0 where
  -- the start
  begins : Entered nodes rules f₀ b₀ f₀ b₀
  -- the node that a rule stands for
  rule_node :
      {x : ℕ} {b : Bool}
      → Entered nodes rules f₀ b₀ (table.rule x) b
      → Entered nodes rules f₀ b₀ (form nodes (stands_for rules x)) b
  -- the first of a sequence
  sequence_first :
      {p q : ℕ} {b : Bool}
      → Entered nodes rules f₀ b₀ (table.sequence p q) b
      → Entered nodes rules f₀ b₀ (form nodes p) b
  -- its second where the first has read nothing: under the same flag
  sequence_unread :
      {p q : ℕ} {b : Bool}
      → Entered nodes rules f₀ b₀ (table.sequence p q) b
      → May nodes rules (form nodes p) nothing
      → Entered nodes rules f₀ b₀ (form nodes q) b
  -- its second where the first has read a token: under a clear flag
  sequence_read :
      {p q : ℕ} {b : Bool}
      → Entered nodes rules f₀ b₀ (table.sequence p q) b
      → May nodes rules (form nodes p) something
      → Entered nodes rules f₀ b₀ (form nodes q) false
  -- the first alternative of a choice
  choice_first :
      {p q : ℕ} {b : Bool}
      → Entered nodes rules f₀ b₀ (table.choice p q) b
      → Entered nodes rules f₀ b₀ (form nodes p) b
  -- the second, where the first has failed
  choice_second :
      {p q : ℕ} {b : Bool}
      → Entered nodes rules f₀ b₀ (table.choice p q) b
      → May nodes rules (form nodes p) fails
      → Entered nodes rules f₀ b₀ (form nodes q) b
  -- what a not looks for
  not_child : {p : ℕ} {b : Bool} → Entered nodes rules f₀ b₀ (table.not p) b → Entered nodes rules f₀ b₀ (form nodes p) b
  -- a round of a repeat
  repeat_round :
      {p : ℕ} {b : Bool}
      → Entered nodes rules f₀ b₀ (table.repeat p) b
      → Entered nodes rules f₀ b₀ (form nodes p) b
  -- the repeat again, where a round has read a token: under a clear flag
  repeat_again :
      {p : ℕ} {b : Bool}
      → Entered nodes rules f₀ b₀ (table.repeat p) b
      → May nodes rules (form nodes p) something
      → Entered nodes rules f₀ b₀ (table.repeat p) false
  -- the child of an indent
  indent_child :
      {p ρ : ℕ} {b : Bool}
      → Entered nodes rules f₀ b₀ (table.indent p ρ) b
      → Entered nodes rules f₀ b₀ (form nodes p) b
  -- the child of a position
  position_child :
      {p σ : ℕ} {b : Bool}
      → Entered nodes rules f₀ b₀ (table.position p σ) b
      → Entered nodes rules f₀ b₀ (form nodes p) b
  -- the child of an align: under a set flag
  align_child :
      {p : ℕ} {b : Bool}
      → Entered nodes rules f₀ b₀ (table.align p) b
      → Entered nodes rules f₀ b₀ (form nodes p) true

-- The grammar reads alike from form f₀ under flag b₀:
pub record ReadAlike (nodes rules : List ℕ) (f₀ : Form) (b₀ : Bool) : Type 0 where
  -- no indent is entered under a set flag,
  pub indents : (p ρ : ℕ) → Entered nodes rules f₀ b₀ (table.indent p ρ) true → ⊥
  -- and no align that is entered under a clear flag may succeed reading nothing
  pub aligns : (p : ℕ) → Entered nodes rules f₀ b₀ (table.align p) false → May nodes rules (form nodes p) nothing → ⊥
