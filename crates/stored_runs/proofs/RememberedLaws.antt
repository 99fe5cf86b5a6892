-- Words lent to remember in, one after the other, and runs of the same words.
use Prim.Native.Nat.{ℕ, zero, suc, ◌+◌, ◌≤◌, ◌<◌}
use mathlib.Core.Path.{◌≡◌, refl, sym, ap, ◌∙◌}
use mathlib.Core.Bool.{true, false}
use mathlib.Core.List.{List}
use native.Mathlib.Numerals.{add-one}
use lib.ListN.{length, drop, get_or, drop_of_length-le}
use lib.Seq.{drop-cons}
use borrow.Author.Tests.{eq-eqb, ne_eqb}
use Rattle.columns.specs.declared.Start.{Start}
use Rattle.columns.specs.declared.Reading.{Reading}
use Rattle.std.proofs.Common.{Result}
use Rattle.table.specs.declared.refusals.Refusal.{Refusal}
use Rattle.interpreter.specs.declared.Ran.{Ran}
use Rattle.stored_cases.specs.Numbers.{first_pairs, first_quads}
use Rattle.stored_runs.specs.Remembered.{slot_word, lent_word, holds, Remembers}

-- The last contents.
pub successes : (n node i : ℕ) → (n ≡ 0 → ⊥) → (n ≡ 1 → ⊥) → (n ≡ 2 → ⊥) → (n ≡ 3 → ⊥) → slot_word 2 node i ≡ lent_word n node i
unfolding lent_word
successes zero node i a b c d = absurd (a refl)
successes (suc zero) node i a b c d = absurd (b refl)
successes (suc (suc zero)) node i a b c d = absurd (c refl)
successes (suc (suc (suc zero))) node i a b c d = absurd (d refl)
successes (suc (suc (suc (suc n)))) node i a b c d = refl

module _ (f : ℕ → ℕ) (words : List ℕ) where
  -- So far the words are what the function gives.
  pub record Still (i : ℕ) : Type 0 where
    pub rest : holds f 0 words ≡ holds f i (drop i words)

  pub starts : Still 0
  starts = record { rest = refl }

  pub goes_on : {i x : ℕ} → Still i → i < length words → x ≡ f i → get_or words i 0 ≡ x → Still (i + 1)
  unfolding holds
  goes_on {i} {x} h l e g =
      record { rest = h.rest ∙ ap (holds f i) (drop-cons words i 0 l) ∙ rw (eq-eqb (get_or words i 0) (f i) (g ∙ e), add-one i) refl }

  pub stops : {i x : ℕ} → Still i → i < length words → x ≡ f i → (get_or words i 0 ≡ x → ⊥) → false ≡ holds f 0 words
  unfolding holds
  stops {i} {x} h l e g =
      sym
      (h.rest ∙ ap (holds f i) (drop-cons words i 0 l)
      ∙ rw (ne_eqb (get_or words i 0) (f i) (λ k. g (k ∙ sym e))) refl)

  pub ends : {i : ℕ} → Still i → length words ≤ i → true ≡ holds f 0 words
  unfolding holds
  ends {i} h l = sym (h.rest ∙ ap (holds f i) (drop_of_length-le words l))

-- A run of the same words.
pub remembers_carried :
    {reading : Reading} {nodes nodes' rules rules' tokens tokens' : List ℕ} (start : Start) (before : List ℕ) (ran : Result Ran Refusal) (after : List ℕ)
    → nodes ≡ nodes'
    → rules ≡ rules'
    → tokens ≡ tokens'
    → Remembers reading nodes rules tokens start before ran after
    → Remembers reading nodes' rules' tokens' start before ran after
remembers_carried start before ran after e f g a = rw (← e, ← f, ← g) a

-- A run of as many words.
pub remembers_as_many :
    {reading : Reading} (nodes rules tokens : List ℕ) {start : Start} {before : List ℕ} {ran : Result Ran Refusal} {after : List ℕ} {x x' y y' z z' : ℕ}
    → Remembers reading (first_pairs x nodes) (first_pairs y rules) (first_quads z tokens) start before ran after
    → x ≡ x'
    → y ≡ y'
    → z ≡ z'
    → Remembers reading (first_pairs x' nodes) (first_pairs y' rules) (first_quads z' tokens) start before ran after
remembers_as_many nodes rules tokens a e f g = rw (← e, ← f, ← g) a
