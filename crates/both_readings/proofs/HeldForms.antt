-- How to show that a grammar reads alike: a set of forms with flags that has the start, and with each of its forms all that is
-- entered from there, has every form that a run may come to.
use Prim.Native.Nat.{ℕ}
use mathlib.Core.Bool.{Bool, true, false}
use mathlib.Core.List.{List}
use Rattle.table.specs.Form as table
use Rattle.table.specs.Form.{Form, form, stands_for}
use Rattle.well_formed.specs.Facts.{nothing, May}
use Rattle.both_readings.specs.BothReadings.{Entered, begins, rule_node, sequence_first, sequence_unread}
use Rattle.both_readings.specs.BothReadings.{sequence_read, choice_first, choice_second, not_child, repeat_round}
use Rattle.both_readings.specs.BothReadings.{repeat_again, indent_child, position_child, align_child, ReadAlike}
use Rattle.both_readings.proofs.ClosedForms.{Closed}

module _ (nodes rules : List ℕ) (Held : Form → Bool → Type 0) (closed : Closed nodes rules Held) {f₀ : Form} {b₀ : Bool} (start : Held f₀ b₀) where
  -- What is entered is in the set.
  pub entered_held : {f : Form} {b : Bool} → Entered nodes rules f₀ b₀ f b → Held f b
  entered_held begins = start
  entered_held (rule_node {x = x} {b = b} h) = closed.in_rule x b (entered_held h)
  entered_held (sequence_first {p = p} {q = q} {b = b} h) = closed.in_first p q b (entered_held h)
  entered_held (sequence_unread {p = p} {q = q} {b = b} h m) = closed.in_unread p q b (entered_held h) m
  entered_held (sequence_read {p = p} {q = q} {b = b} h m) = closed.in_read p q b (entered_held h) m
  entered_held (choice_first {p = p} {q = q} {b = b} h) = closed.in_choice p q b (entered_held h)
  entered_held (choice_second {p = p} {q = q} {b = b} h m) = closed.in_second p q b (entered_held h) m
  entered_held (not_child {p = p} {b = b} h) = closed.in_not p b (entered_held h)
  entered_held (repeat_round {p = p} {b = b} h) = closed.in_round p b (entered_held h)
  entered_held (repeat_again {p = p} {b = b} h m) = closed.in_again p b (entered_held h) m
  entered_held (indent_child {p = p} {ρ = ρ} {b = b} h) = closed.in_indent p ρ b (entered_held h)
  entered_held (position_child {p = p} {σ = σ} {b = b} h) = closed.in_position p σ b (entered_held h)
  entered_held (align_child {p = p} {b = b} h) = closed.in_align p b (entered_held h)

  -- So it is enough to look at the set's indents and aligns.
  pub alike_held :
      ((p ρ : ℕ) → Held (table.indent p ρ) true → ⊥)
      → ((p : ℕ) → Held (table.align p) false → May nodes rules (form nodes p) nothing → ⊥)
      → ReadAlike nodes rules f₀ b₀
  alike_held indents aligns = record { indents = λ p ρ h. indents p ρ (entered_held h); aligns = λ p h m. aligns p (entered_held h) m }
