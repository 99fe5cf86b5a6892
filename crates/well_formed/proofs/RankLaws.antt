-- In a grammar that passes the check, ranks fall from a form to each child that it may enter before it reads a token, and
-- no repeat has a child that may read nothing.
use Prim.Native.Nat.{ℕ, zero, suc, ◌+◌, ◌<◌, ◌≤◌}
use mathlib.Core.Path.{◌≡◌, refl, sym, ap, ◌∙◌}
use mathlib.Core.Bool.{Bool, true, false, cond, ◌||◌, true≢false, not as is_false}
use mathlib.Core.List.{List}
use native.Mathlib.Omega.{arith}
use Rattle.table.specs.Answer.{given}
use Rattle.table.specs.Checks.{table_answer}
use Rattle.table.specs.Form.{Form, repeat, form, node_count}
use Rattle.table.specs.InternalInside.{Inside}
use Rattle.table.proofs.Every.{and_left, and_right}
use Rattle.table.proofs.Inside.{inside_table}
use Rattle.well_formed.specs.Facts.{nothing, May}
use Rattle.well_formed.specs.WellFormed.{WellFormed, Passes, repeat_well}
use Rattle.well_formed.specs.Rounds.{passes, well_after}
use Rattle.well_formed.specs.Check.{may_nothing}
use Rattle.well_formed.specs.InternalRank.{Enters, enters_rule, enters_first, enters_second, enters_choice}
use Rattle.well_formed.specs.InternalRank.{enters_other, enters_not, enters_repeat, enters_indent}
use Rattle.well_formed.specs.InternalRank.{enters_position, enters_align, misses, rank}
use Rattle.well_formed.proofs.DecidedLaws.{facts_decided, well_decided}

module _ (found : ℕ → ℕ → Bool) (none : (n : ℕ) → found 0 n ≡ false) where
  -- Where a node is found one round after another at the earliest, it is missed once more.
  misses_more : (n c : ℕ) → ((k : ℕ) → found (suc k) n ≡ true → found k c ≡ true) → (k : ℕ) → misses found k c < misses found (suc k) n
  unfolding misses
  misses_more n c later zero = rw (none n) (omega arith)
  misses_more n c later (suc k) = by_test (found k c) (found (suc k) n) refl refl (misses_more n c later k)
    where
      by_test : (a b : Bool) → found k c ≡ a → found (suc k) n ≡ b → misses found k c < misses found (suc k) n
          → misses found k c + cond (found k c) 0 1 < misses found (suc k) n + cond (found (suc k) n) 0 1
      by_test true b p q h = rw p (omega arith)
      by_test false true p q h = absurd (true≢false (sym (later k q) ∙ p))
      by_test false false p q h = rw (p, q) (omega arith)

  misses_most : (n k : ℕ) → misses found k n ≤ k
  unfolding misses
  misses_most n zero = omega arith
  misses_most n (suc k) = by_test (found k n) (misses_most n k)
    where
      by_test : (b : Bool) → misses found k n ≤ k → misses found k n + cond b 0 1 ≤ suc k
      by_test true h = omega arith
      by_test false h = omega arith

  misses_some : (n k : ℕ) → 1 ≤ misses found (suc k) n
  unfolding misses
  misses_some n zero = rw (none n) (omega arith)
  misses_some n (suc k) = let h = misses_some n k in omega arith

module _ (nodes rules : List ℕ) (count : ℕ) where
  -- A child that is entered is in the table.
  enters_inside : {f : Form} {c : ℕ} → Enters nodes rules f c → Inside rules count f → c < count
  enters_inside enters_rule i = i
  enters_inside enters_first i = i.0
  enters_inside (enters_second m) i = i.1
  enters_inside enters_choice i = i.0
  enters_inside enters_other i = i.1
  enters_inside enters_not i = i
  enters_inside enters_repeat i = i
  enters_inside enters_indent i = i
  enters_inside enters_position i = i
  enters_inside enters_align i = i

  -- A form passes only after each child that it may enter.
  module _ (may : ℕ → Bool) (all : (n : ℕ) → n < count → May nodes rules (form nodes n) nothing → may n ≡ true) (well : ℕ → Bool) where
    entered_passes : {f : Form} {c : ℕ} → Enters nodes rules f c → Inside rules count f → passes rules may well f ≡ true → well c ≡ true
    unfolding passes
    entered_passes enters_rule i e = e
    entered_passes (enters_first {a = a} {b = b}) i e = and_left (well a) (is_false (may a) || well b) e
    entered_passes (enters_second {a = a} {b = b} m) i e =
        ap (λ (t : Bool). is_false t || well b) (sym (all a i.0 m)) ∙ and_right (well a) (is_false (may a) || well b) e
    entered_passes (enters_choice {a = a} {b = b}) i e = and_left (well a) (well b) e
    entered_passes (enters_other {a = a} {b = b}) i e = and_right (well a) (well b) e
    entered_passes enters_not i e = e
    entered_passes (enters_repeat {a = a}) i e = and_left (well a) (is_false (may a)) e
    entered_passes enters_indent i e = e
    entered_passes enters_position i e = e
    entered_passes enters_align i e = e

module _ (nodes rules : List ℕ) (passing : table_answer nodes rules ≡ given tt) (every_well : Passes nodes rules) where
  abbrev count : ℕ
  count = node_count nodes

  abbrev found : ℕ → ℕ → Bool
  found k n = well_after nodes rules (may_nothing nodes rules) k n

  found_last : (n : ℕ) → n < count → found count n ≡ true
  unfolding may_nothing
  found_last n h = (well_decided nodes rules passing n h).1 (every_well.every n h)

  later : (n c : ℕ) → n < count → Enters nodes rules (form nodes n) c → (k : ℕ) → found (suc k) n ≡ true → found k c ≡ true
  unfolding well_after may_nothing
  later n c h enter k e =
      entered_passes nodes rules count (may_nothing nodes rules)
      (λ m l d. (facts_decided nodes rules count (inside_table nodes rules passing) m l nothing).1 d) (found k) enter
      (inside_table nodes rules passing n h) e

  none_first : (n : ℕ) → found 0 n ≡ false
  unfolding well_after
  none_first n = refl

  found_no_more : (c : ℕ) → c < count → misses found (suc count) c ≡ misses found count c
  unfolding misses
  found_no_more c h = rw (found_last c h) (omega arith)

  -- The rank of a child that may be entered before a token is read is less.
  pub rank_falls : (n c : ℕ) → n < node_count nodes → Enters nodes rules (form nodes n) c → rank nodes rules c < rank nodes rules n
  unfolding rank
  rank_falls n c h enter =
      rw (found_no_more c (enters_inside nodes rules count enter (inside_table nodes rules passing n h)))
      (misses_more found none_first n c (later n c h enter) count)

  -- A rank is at least 1 and at most the number of nodes.
  pub rank_some : (n : ℕ) → 1 ≤ rank nodes rules n
  unfolding rank
  rank_some n = misses_some found none_first n count

  pub rank_most : (n : ℕ) → n < node_count nodes → rank nodes rules n ≤ node_count nodes
  unfolding rank
  rank_most n h = rw (found_no_more n h) (misses_most found none_first n count)

  -- The child of a repeat never succeeds without reading.
  pub repeat_reads : (n a : ℕ) → n < node_count nodes → form nodes n ≡ repeat a → May nodes rules (form nodes a) nothing → ⊥
  repeat_reads n a h e m = by_well (rw e at (every_well.every n h))
    where
      by_well : WellFormed nodes rules (repeat a) → ⊥
      by_well (repeat_well d g) = g m
