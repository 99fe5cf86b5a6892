-- The meaning of a grammar: the ten clauses of 001, section 2.1, over any column domain. Above each constructor stands
-- its clause as a rule in 001's notation: its number, premises ⟹ conclusion. In e, τ ⊢ (w, I, b) → o an expression e is
-- the form of a node, w is a place in the token list, and relations ρ, σ, τ are numbers. Where 000 reads otherwise (02,
-- Note 5), in clauses 8 and 10, its rule of figure 6 stands beside, in the same notation: its ∦ is ff and its ∥ is tt.
use Rattle.std.specs.Prelude.{ℕ, ◌+◌, ◌<◌, ◌≡◌, Bool, true, false, ◌&&◌, List}
use Rattle.std.proofs.Math.Bool as bool
use Rattle.table.specs.Form as table
use Rattle.table.specs.Form.{Form, form, stands_for}
use Rattle.columns.specs.Domain.{Domain}
use Rattle.columns.specs.declared.Reading.{Reading}
use Rattle.columns.specs.declared.Reading.TheVariants.{By2017, By2014}

-- The input: how many tokens there are, and the terminal and the column of each.
pub record Tokens : Type 0 where
  pub count : ℕ
  pub terminal : ℕ → ℕ
  pub column : ℕ → ℕ

-- w = aⁱw': the token at place w has terminal a and stands at column i. Then w' is the place w + 1.
pub record Next (tokens : Tokens) (a i w : ℕ) : Type 0 where
  pub there : w < tokens.count
  pub terminal : tokens.terminal w ≡ a
  pub column : tokens.column w ≡ i

-- State = T* × ℘(ℕ) × 𝔹: place, columns and alignment flag, (w, I, b).
abbrev pub State {ℓ} : Type ℓ → Type ℓ
State C = ℕ × C × Bool

-- State + 1: ⊤(s) or ⊥.
pub data Outcome {ℓ} (C : Type ℓ) : Type ℓ where
  success : State C → Outcome C
  failure : Outcome C

-- Clause 2 asks of a token at column i: b = ff ∧ i ∈ τ⁻¹(I), or b = tt ∧ i ∈ I.
pub data Fits {ℓ κ} (D : Domain {ℓ, κ}) (τ i : ℕ) (I : D.Columns) : Bool → Type κ where
  clear : D.Member i (D.inner τ I) → Fits D τ i I false
  aligned : D.Member i I → Fits D τ i I true

-- Whether indentation counts, under flag b: by 001 always; by 000 under a clear flag.
abbrev pub counts : Reading → Bool → Bool
counts By2017 b = true
counts By2014 b = bool.not b

-- The flag that an align hands on, from the one before it, b, and the one that its child left, b': by 001 b ∧ b'; by 000 b'.
abbrev pub handed_on : Reading → Bool → Bool → Bool
handed_on By2017 b b' = b && b'
handed_on By2014 b b' = b'

module _ {ℓ κ} (D : Domain {ℓ, κ}) (reading : Reading) (nodes rules : List ℕ) (tokens : Tokens) where
  pub data Run : ℕ → Form → State D.Columns → Outcome D.Columns → Type (ℓ ⊔ κ) where
    -- (1) ε, τ ⊢ s → ⊤(s)
    empty : {τ : ℕ} {s : State D.Columns} → Run τ table.empty s (success s)
    -- (2) w = aⁱw', i ∈ τ⁻¹(I) ⟹ a, τ ⊢ (w, I, ff) → ⊤(w', I ∩ τ({i}), ff)
    terminal_clear : {τ a i w : ℕ} {I : D.Columns} → Next tokens a i w → D.Member i (D.inner τ I)
        → Run τ (table.terminal a) (w, I, false) (success (w + 1, D.meet I (D.outer τ (D.one i)), false))
    -- (2) w = aⁱw', i ∈ I ⟹ a, τ ⊢ (w, I, tt) → ⊤(w', {i}, ff)
    terminal_aligned : {τ a i w : ℕ} {I : D.Columns} → Next tokens a i w → D.Member i I
        → Run τ (table.terminal a) (w, I, true) (success (w + 1, D.one i, false))
    -- (2) ∄ i, w': w = aⁱw' ∧ (b = ff ∧ i ∈ τ⁻¹(I) ∨ b = tt ∧ i ∈ I) ⟹ a, τ ⊢ (w, I, b) → ⊥
    terminal_fails : {τ a w : ℕ} {I : D.Columns} {b : Bool} → ((i : ℕ) → Next tokens a i w → Fits D τ i I b → ⊥)
        → Run τ (table.terminal a) (w, I, b) failure
    -- (3) δ(X), τ ⊢ s → o ⟹ X, τ ⊢ s → o
    rule :
        {τ x : ℕ} {s : State D.Columns} {o : Outcome D.Columns}
        → Run τ (form nodes (stands_for rules x)) s o
        → Run τ (table.rule x) s o
    -- (4) p, τ ⊢ s → ⊤(s'), q, τ ⊢ s' → o ⟹ pq, τ ⊢ s → o
    sequence :
        {τ p q : ℕ} {s s' : State D.Columns} {o : Outcome D.Columns}
        → Run τ (form nodes p) s (success s')
        → Run τ (form nodes q) s' o
        → Run τ (table.sequence p q) s o
    -- (4) p, τ ⊢ s → ⊥ ⟹ pq, τ ⊢ s → ⊥
    sequence_fails :
        {τ p q : ℕ} {s : State D.Columns}
        → Run τ (form nodes p) s failure
        → Run τ (table.sequence p q) s failure
    -- (5) p, τ ⊢ s → ⊤(s') ⟹ p/q, τ ⊢ s → ⊤(s')
    choice_first :
        {τ p q : ℕ} {s s' : State D.Columns}
        → Run τ (form nodes p) s (success s')
        → Run τ (table.choice p q) s (success s')
    -- (5) p, τ ⊢ s → ⊥, q, τ ⊢ s → o ⟹ p/q, τ ⊢ s → o
    choice_second :
        {τ p q : ℕ} {s : State D.Columns} {o : Outcome D.Columns}
        → Run τ (form nodes p) s failure
        → Run τ (form nodes q) s o
        → Run τ (table.choice p q) s o
    -- (6) p, τ ⊢ s → ⊥ ⟹ !p, τ ⊢ s → ⊤(s)
    not : {τ p : ℕ} {s : State D.Columns} → Run τ (form nodes p) s failure → Run τ (table.not p) s (success s)
    -- (6) p, τ ⊢ s → ⊤(s') ⟹ !p, τ ⊢ s → ⊥
    not_fails :
        {τ p : ℕ} {s s' : State D.Columns}
        → Run τ (form nodes p) s (success s')
        → Run τ (table.not p) s failure
    -- (7) p, τ ⊢ s → ⊥ ⟹ p*, τ ⊢ s → ⊤(s)
    repeat_ends :
        {τ p : ℕ} {s : State D.Columns}
        → Run τ (form nodes p) s failure
        → Run τ (table.repeat p) s (success s)
    -- (7) p, τ ⊢ s → ⊤(s'), p*, τ ⊢ s' → o ⟹ p*, τ ⊢ s → o
    repeat_again :
        {τ p : ℕ} {s s' : State D.Columns} {o : Outcome D.Columns}
        → Run τ (form nodes p) s (success s')
        → Run τ (table.repeat p) s' o
        → Run τ (table.repeat p) s o
    -- (8) p, τ ⊢ (w, ρ⁻¹(I), b) → ⊤(w', I', b') ⟹ p^ρ, τ ⊢ (w, I, b) → ⊤(w', I ∩ ρ(I'), b')
    -- 000, for b = ff: the same.
    indent :
        {τ p ρ w w' : ℕ} {I I' : D.Columns} {b b' : Bool}
        → counts reading b ≡ true
        → Run τ (form nodes p) (w, D.inner ρ I, b) (success (w', I', b'))
        → Run τ (table.indent p ρ) (w, I, b) (success (w', D.meet I (D.outer ρ I'), b'))
    -- (8) p, τ ⊢ (w, ρ⁻¹(I), b) → ⊥ ⟹ p^ρ, τ ⊢ (w, I, b) → ⊥
    -- 000, for b = ff: the same.
    indent_fails :
        {τ p ρ w : ℕ} {I : D.Columns} {b : Bool}
        → counts reading b ≡ true
        → Run τ (form nodes p) (w, D.inner ρ I, b) failure
        → Run τ (table.indent p ρ) (w, I, b) failure
    -- 000 alone, for b = tt: p, τ ⊢ (w, I, tt) → o ⟹ p^ρ, τ ⊢ (w, I, tt) → o
    indent_through :
        {τ p ρ w : ℕ} {I : D.Columns} {b : Bool} {o : Outcome D.Columns}
        → counts reading b ≡ false
        → Run τ (form nodes p) (w, I, b) o
        → Run τ (table.indent p ρ) (w, I, b) o
    -- (9) p, σ ⊢ s → o ⟹ p_σ, τ ⊢ s → o
    position :
        {τ p σ : ℕ} {s : State D.Columns} {o : Outcome D.Columns}
        → Run σ (form nodes p) s o
        → Run τ (table.position p σ) s o
    -- (10) p, τ ⊢ (w, I, tt) → ⊤(w', I', b') ⟹ |p|, τ ⊢ (w, I, b) → ⊤(w', I', b ∧ b')
    -- 000: p, τ ⊢ (w, I, tt) → ⊤(w', I', b') ⟹ |p|, τ ⊢ (w, I, b) → ⊤(w', I', b')
    align : {τ p w w' : ℕ} {I I' : D.Columns} {b b' : Bool} → Run τ (form nodes p) (w, I, true) (success (w', I', b'))
        → Run τ (table.align p) (w, I, b) (success (w', I', handed_on reading b b'))
    -- (10) p, τ ⊢ (w, I, tt) → ⊥ ⟹ |p|, τ ⊢ (w, I, b) → ⊥
    -- 000: the same.
    align_fails :
        {τ p w : ℕ} {I : D.Columns} {b : Bool}
        → Run τ (form nodes p) (w, I, true) failure
        → Run τ (table.align p) (w, I, b) failure
