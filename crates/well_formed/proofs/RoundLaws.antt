-- What the rounds find is true: each fact by the rules' least relation, each node by that of well-formedness.
use Prim.Native.Nat.{ℕ, zero, suc, ◌<◌}
use mathlib.Core.Path.{◌≡◌, refl, sym, ap, ap₂, ◌∙◌}
use mathlib.Core.Bool.{Bool, true, false, ◌&&◌, ◌||◌, false≢true, or-true, not as is_false}
use mathlib.Core.List.{List}
use mathlib.Core.Logic.{◌⊎◌, inl, inr, ⊎_elim}
use Rattle.table.specs.Form.{Form, empty, terminal, rule, sequence, choice, not, repeat, indent, position, align, other, form, stands_for}
use Rattle.table.specs.InternalInside.{Inside}
use Rattle.table.proofs.Every.{and_left, and_right}
use Rattle.well_formed.specs.Facts.{Fact, nothing, something, fails, Success, by_nothing, by_something, May}
use Rattle.well_formed.specs.Facts.{empty_nothing, terminal_something, terminal_fails, rule_child}
use Rattle.well_formed.specs.Facts.{indent_child, position_child, align_child, sequence_nothing}
use Rattle.well_formed.specs.Facts.{sequence_first, sequence_second, sequence_fails, sequence_then_fails}
use Rattle.well_formed.specs.Facts.{choice_first, choice_second, repeat_something, repeat_nothing}
use Rattle.well_formed.specs.Facts.{not_nothing, not_fails}
use Rattle.well_formed.specs.WellFormed.{WellFormed, empty_well, terminal_well, sequence_well, choice_well}
use Rattle.well_formed.specs.WellFormed.{repeat_well, rule_well, not_well, indent_well, position_well}
use Rattle.well_formed.specs.WellFormed.{align_well}
use Rattle.well_formed.specs.Rounds.{succeeds, gives, known_after, passes, well_after}

-- One of two tests that together hold.
pub one_of : (a b : Bool) → (a || b) ≡ true → (a ≡ true) ⊎ (b ≡ true)
one_of true b e = inl refl
one_of false b e = inr e

module _ (nodes rules : List ℕ) where
  -- What is known of nodes is true of them.
  abbrev pub True : (Fact → ℕ → Bool) → Type 0
  True known = (x : Fact) (n : ℕ) → known x n ≡ true → May nodes rules (form nodes n) x

  -- A success of a node that is known to succeed.
  success : (known : Fact → ℕ → Bool) → True known → (n : ℕ) → succeeds known n ≡ true → (x : Fact) × Success x × May nodes rules (form nodes n) x
  success known t n e =
      ⊎_elim (λ h. (nothing, by_nothing, t nothing n h)) (λ h. (something, by_something, t something n h)) (one_of (known nothing n) (known something n) e)

  module _ (known : Fact → ℕ → Bool) (t : True known) where
    -- One use of the rules gives true facts.
    pub gives_true : (f : Form) (x : Fact) → gives rules known f x ≡ true → May nodes rules f x
    unfolding gives
    gives_true empty nothing e = empty_nothing
    gives_true empty something e = absurd (false≢true e)
    gives_true empty fails e = absurd (false≢true e)
    gives_true (terminal u) nothing e = absurd (false≢true e)
    gives_true (terminal u) something e = terminal_something
    gives_true (terminal u) fails e = terminal_fails
    gives_true (rule r) x e = rule_child (t x (stands_for rules r) e)
    gives_true (sequence a b) nothing e =
        sequence_nothing (t nothing a (and_left (known nothing a) (known nothing b) e))
        (t nothing b (and_right (known nothing a) (known nothing b) e))
    gives_true (sequence a b) something e =
        ⊎_elim
        (λ h.
        let s = success known t b (and_right (known something a) (succeeds known b) h) in sequence_first
        (t something a (and_left (known something a) (succeeds known b) h)) s.1 s.2)
        (λ h.
        let s = success known t a (and_left (succeeds known a) (known something b) h) in sequence_second s.1
        s.2 (t something b (and_right (succeeds known a) (known something b) h)))
        (one_of (known something a && succeeds known b) (succeeds known a && known something b) e)
    gives_true (sequence a b) fails e =
        ⊎_elim (λ h. sequence_fails (t fails a h))
        (λ h.
        let s = success known t a (and_left (succeeds known a) (known fails b) h) in sequence_then_fails s.1
        s.2 (t fails b (and_right (succeeds known a) (known fails b) h)))
        (one_of (known fails a) (succeeds known a && known fails b) e)
    gives_true (choice a b) nothing e =
        ⊎_elim
        (λ h. choice_first by_nothing (t nothing a h))
        (λ h. choice_second (t fails a (and_left (known fails a) (known nothing b) h)) (t nothing b (and_right (known fails a) (known nothing b) h)))
        (one_of (known nothing a) (known fails a && known nothing b) e)
    gives_true (choice a b) something e =
        ⊎_elim
        (λ h. choice_first by_something (t something a h))
        (λ h. choice_second (t fails a (and_left (known fails a) (known something b) h)) (t something b (and_right (known fails a) (known something b) h)))
        (one_of (known something a) (known fails a && known something b) e)
    gives_true (choice a b) fails e = choice_second (t fails a (and_left (known fails a) (known fails b) e)) (t fails b (and_right (known fails a) (known fails b) e))
    gives_true (not a) nothing e = not_nothing (t fails a e)
    gives_true (not a) something e = absurd (false≢true e)
    gives_true (not a) fails e = let s = success known t a e in not_fails s.1 s.2
    gives_true (repeat a) nothing e = repeat_nothing (t fails a e)
    gives_true (repeat a) something e = repeat_something (t something a e)
    gives_true (repeat a) fails e = absurd (false≢true e)
    gives_true (indent a r) x e = indent_child (t x a e)
    gives_true (position a r) x e = position_child (t x a e)
    gives_true (align a) x e = align_child (t x a e)
    gives_true other x e = absurd (false≢true e)

  -- A fact that some round finds is true.
  pub known_true : (k : ℕ) (x : Fact) (n : ℕ) → known_after nodes rules k x n ≡ true → May nodes rules (form nodes n) x
  unfolding known_after
  known_true zero x n e = absurd (false≢true e)
  known_true (suc k) x n e = gives_true (known_after nodes rules k) (known_true k) (form nodes n) x e

module _ (nodes rules : List ℕ) (count : ℕ) (inside : (n : ℕ) → n < count → Inside rules count (form nodes n)) where
  -- Where a further use of the rules brings nothing, every true fact is known.
  module _ (known : Fact → ℕ → Bool) (closed : (n : ℕ) → n < count → (x : Fact) → gives rules known (form nodes n) x ≡ true → known x n ≡ true) where
    succeeds_by : (n : ℕ) (x : Fact) → Success x → known x n ≡ true → succeeds known n ≡ true
    succeeds_by n x by_nothing e = ap (λ (b : Bool). b || known something n) e
    succeeds_by n x by_something e = ap (λ (b : Bool). known nothing n || b) e ∙ or-true (known nothing n)

    both : {a b : Bool} → a ≡ true → b ≡ true → (a && b) ≡ true
    both p q = ap₂ ◌&&◌ p q

    left : {a : Bool} (b : Bool) → a ≡ true → (a || b) ≡ true
    left b p = ap (λ (c : Bool). c || b) p

    right : (a : Bool) {b : Bool} → b ≡ true → (a || b) ≡ true
    right a p = ap (λ (c : Bool). a || c) p ∙ or-true a

    holds : {f : Form} {x : Fact} → May nodes rules f x → Inside rules count f → gives rules known f x ≡ true
    unfolding gives
    holds empty_nothing i = refl
    holds terminal_something i = refl
    holds terminal_fails i = refl
    holds (rule_child {x = x} d) i = closed _ i x (holds d (inside _ i))
    holds (indent_child {x = x} d) i = closed _ i x (holds d (inside _ i))
    holds (position_child {x = x} d) i = closed _ i x (holds d (inside _ i))
    holds (align_child {x = x} d) i = closed _ i x (holds d (inside _ i))
    holds (sequence_nothing d e) i = both (closed _ i.0 nothing (holds d (inside _ i.0))) (closed _ i.1 nothing (holds e (inside _ i.1)))
    holds (sequence_first {a = a} {b = b} {x = x} d s e) i =
        left (succeeds known a && known something b)
        (both (closed a i.0 something (holds d (inside a i.0)))
        (succeeds_by b x s (closed b i.1 x (holds e (inside b i.1)))))
    holds (sequence_second {a = a} {b = b} {x = x} s d e) i =
        right (known something a && succeeds known b)
        (both (succeeds_by a x s (closed a i.0 x (holds d (inside a i.0))))
        (closed b i.1 something (holds e (inside b i.1))))
    holds (sequence_fails {a = a} {b = b} d) i = left (succeeds known a && known fails b) (closed a i.0 fails (holds d (inside a i.0)))
    holds (sequence_then_fails {a = a} {b = b} {x = x} s d e) i =
        right (known fails a) (both (succeeds_by a x s (closed a i.0 x (holds d (inside a i.0)))) (closed b i.1 fails (holds e (inside b i.1))))
    holds (choice_first {a = a} {b = b} by_nothing d) i = left (known fails a && known nothing b) (closed a i.0 nothing (holds d (inside a i.0)))
    holds (choice_first {a = a} {b = b} by_something d) i = left (known fails a && known something b) (closed a i.0 something (holds d (inside a i.0)))
    holds (choice_second {a = a} {b = b} {x = nothing} d e) i =
        right (known nothing a)
        (both (closed a i.0 fails (holds d (inside a i.0)))
        (closed b i.1 nothing (holds e (inside b i.1))))
    holds (choice_second {a = a} {b = b} {x = something} d e) i =
        right (known something a)
        (both (closed a i.0 fails (holds d (inside a i.0)))
        (closed b i.1 something (holds e (inside b i.1))))
    holds (choice_second {a = a} {b = b} {x = fails} d e) i = both (closed a i.0 fails (holds d (inside a i.0))) (closed b i.1 fails (holds e (inside b i.1)))
    holds (repeat_something d) i = closed _ i something (holds d (inside _ i))
    holds (repeat_nothing d) i = closed _ i fails (holds d (inside _ i))
    holds (not_nothing d) i = closed _ i fails (holds d (inside _ i))
    holds (not_fails {a = a} {x = x} s d) i = succeeds_by a x s (closed a i x (holds d (inside a i)))

    pub all_known : (n : ℕ) → n < count → (x : Fact) → May nodes rules (form nodes n) x → known x n ≡ true
    all_known n h x d = closed n h x (holds d (inside n h))

-- Well-formedness, where which nodes may succeed reading nothing is known exactly.
module _ (nodes rules : List ℕ) (count : ℕ) (inside : (n : ℕ) → n < count → Inside rules count (form nodes n)) (may : ℕ → Bool) where
  -- One use of the rules finds well-formed forms.
  module _ (all : (n : ℕ) → n < count → May nodes rules (form nodes n) nothing → may n ≡ true) where
    pub passes_true :
        (well : ℕ → Bool)
        → ((n : ℕ) → n < count → well n ≡ true → WellFormed nodes rules (form nodes n))
        → (f : Form)
        → Inside rules count f
        → passes rules may well f ≡ true
        → WellFormed nodes rules f
    unfolding passes
    passes_true well t empty i e = empty_well
    passes_true well t (terminal u) i e = terminal_well
    passes_true well t (rule r) i e = rule_well (t (stands_for rules r) i e)
    passes_true well t (sequence a b) i e =
        sequence_well (t a i.0 (and_left (well a) (is_false (may a) || well b) e))
        (λ d. t b i.1 (ap (λ (c : Bool). is_false c || well b) (sym (all a i.0 d)) ∙ and_right (well a) (is_false (may a) || well b) e))
    passes_true well t (choice a b) i e = choice_well (t a i.0 (and_left (well a) (well b) e)) (t b i.1 (and_right (well a) (well b) e))
    passes_true well t (not a) i e = not_well (t a i e)
    passes_true well t (repeat a) i e =
        repeat_well (t a i (and_left (well a) (is_false (may a)) e)) (λ d. false≢true (ap is_false (sym (all a i d)) ∙ and_right (well a) (is_false (may a)) e))
    passes_true well t (indent a r) i e = indent_well (t a i e)
    passes_true well t (position a r) i e = position_well (t a i e)
    passes_true well t (align a) i e = align_well (t a i e)
    passes_true well t other i e = absurd (false≢true e)

    -- A node that some round finds well formed is.
    pub well_true : (k n : ℕ) → n < count → well_after nodes rules may k n ≡ true → WellFormed nodes rules (form nodes n)
    unfolding well_after
    well_true zero n h e = absurd (false≢true e)
    well_true (suc k) n h e = passes_true (well_after nodes rules may k) (well_true k) (form nodes n) (inside n h) e

  -- Where a further use of the rules brings nothing, every well-formed node is found.
  module _ (right_may : (n : ℕ) → may n ≡ true → May nodes rules (form nodes n) nothing) (well : ℕ → Bool)
      (closed : (n : ℕ) → n < count → passes rules may well (form nodes n) ≡ true → well n ≡ true) where
    if_may : (a : ℕ) (x : Bool) → (may a ≡ true → x ≡ true) → (is_false (may a) || x) ≡ true
    if_may a x g = by_test (may a) refl
      where
        by_test : (t : Bool) → may a ≡ t → (is_false (may a) || x) ≡ true
        by_test true e = ap (λ (c : Bool). is_false c || x) e ∙ g e
        by_test false e = ap (λ (c : Bool). is_false c || x) e

    no_may : (a : ℕ) → (May nodes rules (form nodes a) nothing → ⊥) → is_false (may a) ≡ true
    no_may a g = by_test (may a) refl
      where
        by_test : (t : Bool) → may a ≡ t → is_false (may a) ≡ true
        by_test true e = absurd (g (right_may a e))
        by_test false e = ap is_false e

    found : {f : Form} → WellFormed nodes rules f → Inside rules count f → passes rules may well f ≡ true
    unfolding passes
    found empty_well i = refl
    found terminal_well i = refl
    found (rule_well d) i = closed _ i (found d (inside _ i))
    found (sequence_well {a = a} {b = b} d g) i =
        ap₂ ◌&&◌ (closed a i.0 (found d (inside a i.0))) (if_may a (well b) (λ e. closed b i.1 (found (g (right_may a e)) (inside b i.1))))
    found (choice_well d e) i = ap₂ ◌&&◌ (closed _ i.0 (found d (inside _ i.0))) (closed _ i.1 (found e (inside _ i.1)))
    found (repeat_well {a = a} d g) i = ap₂ ◌&&◌ (closed a i (found d (inside a i))) (no_may a g)
    found (not_well d) i = closed _ i (found d (inside _ i))
    found (indent_well d) i = closed _ i (found d (inside _ i))
    found (position_well d) i = closed _ i (found d (inside _ i))
    found (align_well d) i = closed _ i (found d (inside _ i))

    pub all_found : (n : ℕ) → n < count → WellFormed nodes rules (form nodes n) → well n ≡ true
    all_found n h d = closed n h (found d (inside n h))
