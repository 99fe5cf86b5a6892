-- Where a grammar reads alike, each derivation by one reading is one by the other, with the same outcome and the same trace: in
-- any column domain, for any tokens, whether or not the grammar is well formed.
use Prim.Native.Nat.{ℕ}
use mathlib.Core.Path.{◌≡◌, refl, sym, subst, ◌∙◌}
use mathlib.Core.Bool.{Bool, true, false, true≢false}
use mathlib.Core.List.{List}
use mathlib.Core.Logic.{◌↔◌, ⊎_elim}
use native.Mathlib.Nat.{eq-or-lt_of_le}
use Rattle.table.specs.Form as table
use Rattle.table.specs.Form.{Form, form}
use Rattle.columns.specs.Domain.{Domain}
use Rattle.columns.specs.declared.Reading.{Reading}
use Rattle.columns.specs.declared.Reading.TheVariants.{By2017, By2014}
use Rattle.well_formed.specs.Facts.{nothing, something, fails}
use Rattle.clauses.specs.Clauses.{Tokens, State, Outcome, success, counts, handed_on, Run, empty, terminal_clear}
use Rattle.clauses.specs.Clauses.{terminal_aligned, terminal_fails, rule, sequence, sequence_fails, choice_first}
use Rattle.clauses.specs.Clauses.{choice_second, not, not_fails, repeat_ends, repeat_again, indent, indent_fails}
use Rattle.clauses.specs.Clauses.{indent_through, position, align, align_fails}
use Rattle.clauses.specs.Trace.{Trace, trace, Gives}
use Rattle.theorems.proofs.GiveLaws as give
use Rattle.theorems.proofs.Narrows.{onward, settles}
use Rattle.theorems.proofs.ShownFacts.{shown, at_once, further, not_at_all}
use Rattle.both_readings.specs.BothReadings.{Entered, ReadAlike}
use Rattle.both_readings.specs.BothReadings as entered

-- The other reading.
abbrev other : Reading → Reading
other By2017 = By2014
other By2014 = By2017

-- Under a clear flag an indent counts by both.
counts_clear : (r : Reading) → counts r false ≡ true
counts_clear By2017 = refl
counts_clear By2014 = refl

-- What an align hands on is the same by both, if no flag is left set where there was none.
handed : (r : Reading) (b b' : Bool) → (b ≡ false → b' ≡ false) → handed_on (other r) b b' ≡ handed_on r b b'
handed By2017 true b' h = refl
handed By2017 false b' h = h refl
handed By2014 true b' h = refl
handed By2014 false b' h = sym (h refl)

module _ {ℓ κ} (D : Domain {ℓ, κ}) (nodes rules : List ℕ) (tokens : Tokens) (f₀ : Form) (b₀ : Bool) where
  -- A form is entered under a flag that is the same.
  under : {f : Form} {b c : Bool} → c ≡ b → Entered nodes rules f₀ b₀ f b → Entered nodes rules f₀ b₀ f c
  under {f} e h = subst (λ (a : Bool). Entered nodes rules f₀ b₀ f a) (sym e) h

  -- A sequence's second is entered under the flag that its first leaves,
  second :
      {τ p q : ℕ} {s s' : State D.Columns}
      → Run D By2017 nodes rules tokens τ (form nodes p) s (success s')
      → Entered nodes rules f₀ b₀ (table.sequence p q) s.2
      → Entered nodes rules f₀ b₀ (form nodes q) s'.2
  second d h =
      let k = settles D nodes rules tokens d in
      ⊎_elim (λ e. under (k.unread (sym e)) (entered.sequence_unread h (shown D By2017 nodes rules tokens d nothing (at_once (sym e)))))
      (λ l. under (k.read l) (entered.sequence_read h (shown D By2017 nodes rules tokens d something (further l)))) (eq-or-lt_of_le (onward D By2017 nodes rules tokens d))

  -- and a repeat again under the flag that a round leaves.
  again :
      {τ p : ℕ} {s s' : State D.Columns}
      → Run D By2017 nodes rules tokens τ (form nodes p) s (success s')
      → Entered nodes rules f₀ b₀ (table.repeat p) s.2
      → Entered nodes rules f₀ b₀ (table.repeat p) s'.2
  again d h =
      let k = settles D nodes rules tokens d in
      ⊎_elim (λ e. under (k.unread (sym e)) h)
      (λ l. under (k.read l) (entered.repeat_again h (shown D By2017 nodes rules tokens d something (further l)))) (eq-or-lt_of_le (onward D By2017 nodes rules tokens d))

  -- Of a run by a reading and one by the other, that by 2017.
  by_2017 :
      (r : Reading) {τ : ℕ} {f : Form} {s : State D.Columns} {o : Outcome D.Columns}
      → Run D r nodes rules tokens τ f s o
      → Run D (other r) nodes rules tokens τ f s o
      → Run D By2017 nodes rules tokens τ f s o
  by_2017 By2017 d e = d
  by_2017 By2014 d e = e

  module _ (alike : ReadAlike nodes rules f₀ b₀) where
    -- An align that is entered under a clear flag leaves it clear.
    left_clear :
        {τ p w w' : ℕ} {I I' : D.Columns} {b b' : Bool}
        → Run D By2017 nodes rules tokens τ (form nodes p) (w, I, true) (success (w', I', b'))
        → Entered nodes rules f₀ b₀ (table.align p) b
        → b ≡ false
        → b' ≡ false
    left_clear {p = p} d h c =
        ⊎_elim (λ e. absurd (alike.aligns p (under (sym c) h) (shown D By2017 nodes rules tokens d nothing (at_once (sym e))))) (λ l. (settles D nodes rules tokens d).read l)
        (eq-or-lt_of_le (onward D By2017 nodes rules tokens d))

    -- A derivation by a reading is one by the other, with its trace.
    module _ (r : Reading) where
      across :
          {τ : ℕ} {f : Form} {s : State D.Columns} {o : Outcome D.Columns} (d : Run D r nodes rules tokens τ f s o)
          → Entered nodes rules f₀ b₀ f s.2
          → Gives D (other r) nodes rules tokens τ f s o (trace D r nodes rules tokens d)
      unfolding trace
      across empty h = give.empty
      across (terminal_clear n m) h = give.terminal_clear n m
      across (terminal_aligned n m) h = give.terminal_aligned n m
      across (terminal_fails k) h = give.terminal_fails k
      across (rule d) h = give.rule (across d (entered.rule_node h))
      across (sequence d e) h = let x = across d (entered.sequence_first h) in give.sequence x (across e (second (by_2017 r d x.run) h))
      across (sequence_fails d) h = give.sequence_fails (across d (entered.sequence_first h))
      across (choice_first d) h = give.choice_first (across d (entered.choice_first h))
      across (choice_second d e) h =
          give.choice_second (across d (entered.choice_first h)) (across e (entered.choice_second h (shown D r nodes rules tokens d fails not_at_all)))
      across (not d) h = give.not (across d (entered.not_child h))
      across (not_fails d) h = give.not_fails (across d (entered.not_child h))
      across (repeat_ends d) h = give.repeat_ends (across d (entered.repeat_round h))
      across (repeat_again d e) h = let x = across d (entered.repeat_round h) in give.repeat_again x (across e (again (by_2017 r d x.run) h))
      across (indent {p = p} {ρ = ρ} {b = true} c d) h = absurd (alike.indents p ρ h)
      across (indent {b = false} c d) h = give.indent (counts_clear (other r)) (across d (entered.indent_child h))
      across (indent_fails {p = p} {ρ = ρ} {b = true} c d) h = absurd (alike.indents p ρ h)
      across (indent_fails {b = false} c d) h = give.indent_fails (counts_clear (other r)) (across d (entered.indent_child h))
      across (indent_through {p = p} {ρ = ρ} {b = true} c d) h = absurd (alike.indents p ρ h)
      across (indent_through {b = false} c d) h = absurd (true≢false (sym (counts_clear r) ∙ c))
      across (position d) h = give.position (across d (entered.position_child h))
      across (align {τ = τ} {p = p} {w = w} {w' = w'} {I = I} {I' = I'} {b = b} {b' = b'} d) h =
          let x = across d (entered.align_child h) in
          subst (λ (c : Bool). Gives D (other r) nodes rules tokens τ (table.align p) (w, I, b) (success (w', I', c)) (trace D r nodes rules tokens d))
          (handed r b b' (left_clear (by_2017 r d x.run) h)) (give.align x)
      across (align_fails d) h = give.align_fails (across d (entered.align_child h))

    -- What the clauses give by one reading they give by the other, outcome and trace.
    pub same_run :
        (τ : ℕ) (f : Form) (s : State D.Columns) (o : Outcome D.Columns) (t : Trace)
        → Entered nodes rules f₀ b₀ f s.2
        → Gives D By2014 nodes rules tokens τ f s o t ↔ Gives D By2017 nodes rules tokens τ f s o t
    same_run τ f s o t h = (
      λ d. subst (λ (u : Trace). Gives D By2017 nodes rules tokens τ f s o u) d.shows (across By2014 d.run h),
      λ d. subst (λ (u : Trace). Gives D By2014 nodes rules tokens τ f s o u) d.shows (across By2017 d.run h),
    )
