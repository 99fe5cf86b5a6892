-- In a table that passes 3, 4 and 5 the rounds decide the facts and well-formedness: as many rounds of facts as there are
-- facts of nodes, then as many rounds as there are nodes.
use Prim.Native.Nat.{ℕ, zero, suc, ◌*◌, ◌<◌}
use mathlib.Core.Path.{◌≡◌, refl, sym, ap, ap₂, subst, fun_ext, ◌∙◌}
use mathlib.Core.Bool.{Bool, true, ◌&&◌, ◌||◌, or-true, not as is_false}
use mathlib.Core.List.{List, [], ◌∷◌}
use mathlib.Core.Logic.{◌↔◌, ⊎_elim}
use lib.ListN.{length}
use native.Mathlib.Nat.{eq-or-lt_of_le, le_of_suc-le-suc}
use native.Mathlib.Omega.{arith}
use Rattle.table.specs.Answer.{given}
use Rattle.table.specs.Form.{Form, empty, terminal, rule, sequence, choice, not, repeat, indent, position, align, other, form, node_count, stands_for}
use Rattle.table.specs.Checks.{table_answer}
use Rattle.table.specs.InternalInside.{Inside}
use Rattle.table.proofs.Every.{and_left, and_right}
use Rattle.table.proofs.Inside.{inside_table}
use Rattle.well_formed.specs.Facts.{Fact, nothing, something, fails, May}
use Rattle.well_formed.specs.WellFormed.{WellFormed}
use Rattle.well_formed.specs.Rounds.{succeeds, gives, known_after, passes, well_after}
use Rattle.well_formed.specs.InternalPasses.{Cell, cell, fact_step, well_step}
use Rattle.well_formed.proofs.RoundLaws.{one_of, known_true, all_known, well_true, all_found}
use Rattle.well_formed.proofs.FixpointLaws.{Each, each_none, each_more, More, rounds, settled}

-- Tests that follow from tests.
and_more : (a b c d : Bool) → (a ≡ true → c ≡ true) → (b ≡ true → d ≡ true) → (a && b) ≡ true → (c && d) ≡ true
and_more a b c d f g e = ap₂ ◌&&◌ (f (and_left a b e)) (g (and_right a b e))

or_more : (a b c d : Bool) → (a ≡ true → c ≡ true) → (b ≡ true → d ≡ true) → (a || b) ≡ true → (c || d) ≡ true
or_more a b c d f g e = ⊎_elim (λ h. ap (λ (x : Bool). x || d) (f h)) (λ h. ap (λ (x : Bool). c || x) (g h) ∙ or-true c) (one_of a b e)

-- The facts of the nodes below a count.
pub cells_below : ℕ → List Cell
cells_below zero = []
cells_below (suc n) = cell nothing n ∷ cell something n ∷ cell fails n ∷ cells_below n

cells_count : (n : ℕ) → length (cells_below n) ≡ n * 3
unfolding cells_below
cells_count zero = refl
cells_count (suc n) = omega (arith, cells_count n)

each_cell : (P : Cell → Type 0) (count : ℕ) → ((n : ℕ) → n < count → (x : Fact) → P (cell x n)) → Each P (cells_below count)
unfolding cells_below
each_cell P zero h = each_none
each_cell P (suc n) h =
    each_more (h n (omega arith) nothing)
    (each_more (h n (omega arith) something)
    (each_more (h n (omega arith) fails) (each_cell P n (λ k l x. h k (omega arith) x))))

pub cell_at : (P : Cell → Type 0) (count : ℕ) → Each P (cells_below count) → (n : ℕ) → n < count → (x : Fact) → P (cell x n)
unfolding cells_below
cell_at P zero e n h x = absurd (omega arith)
cell_at P (suc k) (each_more a (each_more b (each_more c e))) n h x = ⊎_elim (λ q. rw q (here x)) (λ l. cell_at P k e n l x) (eq-or-lt_of_le (le_of_suc-le-suc h))
  where
    here : (y : Fact) → P (cell y k)
    here nothing = a
    here something = b
    here fails = c

module _ (rules : List ℕ) where
  -- From more facts the rules give more.
  module _ (p q : Fact → ℕ → Bool) (m : (x : Fact) (n : ℕ) → p x n ≡ true → q x n ≡ true) where
    succeeds_more : (n : ℕ) → succeeds p n ≡ true → succeeds q n ≡ true
    succeeds_more n e = or_more (p nothing n) (p something n) (q nothing n) (q something n) (m nothing n) (m something n) e

    gives_more : (f : Form) (x : Fact) → gives rules p f x ≡ true → gives rules q f x ≡ true
    unfolding gives
    gives_more empty nothing e = e
    gives_more empty something e = e
    gives_more empty fails e = e
    gives_more (terminal t) nothing e = e
    gives_more (terminal t) something e = e
    gives_more (terminal t) fails e = e
    gives_more (rule r) x e = m x (stands_for rules r) e
    gives_more (sequence a b) nothing e = and_more (p nothing a) (p nothing b) (q nothing a) (q nothing b) (m nothing a) (m nothing b) e
    gives_more (sequence a b) something e =
        or_more (p something a && succeeds p b) (succeeds p a && p something b) (q something a && succeeds q b) (succeeds q a && q something b)
        (and_more (p something a) (succeeds p b) (q something a) (succeeds q b) (m something a) (succeeds_more b))
        (and_more (succeeds p a) (p something b) (succeeds q a) (q something b) (succeeds_more a) (m something b)) e
    gives_more (sequence a b) fails e =
        or_more (p fails a) (succeeds p a && p fails b) (q fails a) (succeeds q a && q fails b) (m fails a)
        (and_more (succeeds p a) (p fails b) (succeeds q a) (q fails b) (succeeds_more a) (m fails b)) e
    gives_more (choice a b) nothing e =
        or_more (p nothing a) (p fails a && p nothing b) (q nothing a) (q fails a && q nothing b) (m nothing a)
        (and_more (p fails a) (p nothing b) (q fails a) (q nothing b) (m fails a) (m nothing b)) e
    gives_more (choice a b) something e =
        or_more (p something a) (p fails a && p something b) (q something a) (q fails a && q something b)
        (m something a) (and_more (p fails a) (p something b) (q fails a) (q something b) (m fails a) (m something b))
        e
    gives_more (choice a b) fails e = and_more (p fails a) (p fails b) (q fails a) (q fails b) (m fails a) (m fails b) e
    gives_more (not a) nothing e = m fails a e
    gives_more (not a) something e = e
    gives_more (not a) fails e = succeeds_more a e
    gives_more (repeat a) nothing e = m fails a e
    gives_more (repeat a) something e = m something a e
    gives_more (repeat a) fails e = e
    gives_more (indent a r) x e = m x a e
    gives_more (position a r) x e = m x a e
    gives_more (align a) x e = m x a e
    gives_more other x e = e

  -- The rules ask about the children alone.
  module _ (count : ℕ) (p q : Fact → ℕ → Bool) (same : (n : ℕ) → n < count → (x : Fact) → p x n ≡ q x n) where
    succeeds_same : (n : ℕ) → n < count → succeeds p n ≡ succeeds q n
    succeeds_same n h = ap₂ ◌||◌ (same n h nothing) (same n h something)

    gives_same : (f : Form) → Inside rules count f → (x : Fact) → gives rules p f x ≡ gives rules q f x
    unfolding gives
    gives_same empty i nothing = refl
    gives_same empty i something = refl
    gives_same empty i fails = refl
    gives_same (terminal t) i nothing = refl
    gives_same (terminal t) i something = refl
    gives_same (terminal t) i fails = refl
    gives_same (rule r) i x = same (stands_for rules r) i x
    gives_same (sequence a b) i nothing = ap₂ ◌&&◌ (same a i.0 nothing) (same b i.1 nothing)
    gives_same (sequence a b) i something =
        ap₂ ◌||◌ (ap₂ ◌&&◌ (same a i.0 something) (succeeds_same b i.1)) (ap₂ ◌&&◌ (succeeds_same a i.0) (same b i.1 something))
    gives_same (sequence a b) i fails = ap₂ ◌||◌ (same a i.0 fails) (ap₂ ◌&&◌ (succeeds_same a i.0) (same b i.1 fails))
    gives_same (choice a b) i nothing = ap₂ ◌||◌ (same a i.0 nothing) (ap₂ ◌&&◌ (same a i.0 fails) (same b i.1 nothing))
    gives_same (choice a b) i something = ap₂ ◌||◌ (same a i.0 something) (ap₂ ◌&&◌ (same a i.0 fails) (same b i.1 something))
    gives_same (choice a b) i fails = ap₂ ◌&&◌ (same a i.0 fails) (same b i.1 fails)
    gives_same (not a) i nothing = same a i fails
    gives_same (not a) i something = refl
    gives_same (not a) i fails = succeeds_same a i
    gives_same (repeat a) i nothing = same a i fails
    gives_same (repeat a) i something = same a i something
    gives_same (repeat a) i fails = refl
    gives_same (indent a r) i x = same a i x
    gives_same (position a r) i x = same a i x
    gives_same (align a) i x = same a i x
    gives_same other i x = refl

-- A table whose children are inside.
module _ (nodes rules : List ℕ) (count : ℕ) (inside : (n : ℕ) → n < count → Inside rules count (form nodes n)) where
  fact_more : (p q : Cell → Bool) → More p q → More (fact_step nodes rules p) (fact_step nodes rules q)
  fact_more p q m c e = gives_more rules (λ x n. p (cell x n)) (λ x n. q (cell x n)) (λ x n. m (cell x n)) (form nodes c.node) c.fact e

  fact_local : (p q : Cell → Bool) → Each (λ c. p c ≡ q c) (cells_below count) → Each (λ c. fact_step nodes rules p c ≡ fact_step nodes rules q c) (cells_below count)
  fact_local p q e =
      each_cell (λ c. fact_step nodes rules p c ≡ fact_step nodes rules q c) count
      (λ n h x. gives_same rules count (λ y k. p (cell y k)) (λ y k. q (cell y k)) (λ k l y. cell_at (λ c. p c ≡ q c) count e k l y) (form nodes n) (inside n h) x)

  fact_rounds : (k : ℕ) (x : Fact) (n : ℕ) → rounds (fact_step nodes rules) fact_more (cells_below count) fact_local k (cell x n) ≡ known_after nodes rules k x n
  unfolding rounds known_after
  fact_rounds zero x n = refl
  fact_rounds (suc k) x n = ap (λ (known : Fact → ℕ → Bool). gives rules known (form nodes n) x) (fun_ext (λ y. fun_ext (λ m. fact_rounds k y m)))

  facts_settle : (n : ℕ) → n < count → (x : Fact) → known_after nodes rules (suc (count * 3)) x n ≡ known_after nodes rules (count * 3) x n
  facts_settle n h x =
      let k = length (cells_below count) in
      subst (λ (r : ℕ). known_after nodes rules (suc r) x n ≡ known_after nodes rules r x n) (cells_count count)
      (sym (fact_rounds (suc k) x n)
      ∙ cell_at
      (λ c.
      rounds (fact_step nodes rules) fact_more (cells_below count) fact_local (suc k) c
      ≡ rounds (fact_step nodes rules) fact_more (cells_below count) fact_local k c) count
      (settled (fact_step nodes rules) fact_more (cells_below count) fact_local) n h x
      ∙ fact_rounds k x n)

  -- The facts that three rounds a node find are closed under the rules.
  pub facts_closed :
      (n : ℕ)
      → n < count
      → (x : Fact)
      → gives rules (known_after nodes rules (count * 3)) (form nodes n) x ≡ true
      → known_after nodes rules (count * 3) x n ≡ true
  unfolding known_after
  facts_closed n h x e = sym (facts_settle n h x) ∙ e

  -- They are those that are true.
  pub facts_decided : (n : ℕ) → n < count → (x : Fact) → (known_after nodes rules (count * 3) x n ≡ true) ↔ May nodes rules (form nodes n) x
  facts_decided n h x = (known_true nodes rules (count * 3) x n, all_known nodes rules count inside (known_after nodes rules (count * 3)) facts_closed n h x)

-- The nodes below a count.
pub nodes_below : ℕ → List ℕ
nodes_below zero = []
nodes_below (suc n) = n ∷ nodes_below n

nodes_count : (n : ℕ) → length (nodes_below n) ≡ n
unfolding nodes_below
nodes_count zero = refl
nodes_count (suc n) = ap suc (nodes_count n)

each_node : (P : ℕ → Type 0) (count : ℕ) → ((n : ℕ) → n < count → P n) → Each P (nodes_below count)
unfolding nodes_below
each_node P zero h = each_none
each_node P (suc n) h = each_more (h n (omega arith)) (each_node P n (λ k l. h k (omega arith)))

pub node_at : (P : ℕ → Type 0) (count : ℕ) → Each P (nodes_below count) → (n : ℕ) → n < count → P n
unfolding nodes_below
node_at P zero e n h = absurd (omega arith)
node_at P (suc k) (each_more a e) n h = ⊎_elim (λ q. rw q a) (λ l. node_at P k e n l) (eq-or-lt_of_le (le_of_suc-le-suc h))

module _ (rules : List ℕ) (may : ℕ → Bool) where
  -- From more well-formed nodes the rules give more, and they ask about the children alone.
  passes_more : (p q : ℕ → Bool) → More p q → (f : Form) → passes rules may p f ≡ true → passes rules may q f ≡ true
  unfolding passes
  passes_more p q m empty e = e
  passes_more p q m (terminal t) e = e
  passes_more p q m (rule r) e = m (stands_for rules r) e
  passes_more p q m (sequence a b) e =
      and_more (p a) (is_false (may a) || p b) (q a) (is_false (may a) || q b) (m a) (or_more (is_false (may a)) (p b) (is_false (may a)) (q b) (λ h. h) (m b)) e
  passes_more p q m (choice a b) e = and_more (p a) (p b) (q a) (q b) (m a) (m b) e
  passes_more p q m (not a) e = m a e
  passes_more p q m (repeat a) e = and_more (p a) (is_false (may a)) (q a) (is_false (may a)) (m a) (λ h. h) e
  passes_more p q m (indent a r) e = m a e
  passes_more p q m (position a r) e = m a e
  passes_more p q m (align a) e = m a e
  passes_more p q m other e = e

  passes_same :
      (count : ℕ) (p q : ℕ → Bool)
      → ((n : ℕ) → n < count → p n ≡ q n)
      → (f : Form)
      → Inside rules count f
      → passes rules may p f ≡ passes rules may q f
  unfolding passes
  passes_same count p q s empty i = refl
  passes_same count p q s (terminal t) i = refl
  passes_same count p q s (rule r) i = s (stands_for rules r) i
  passes_same count p q s (sequence a b) i = ap₂ ◌&&◌ (s a i.0) (ap (λ (c : Bool). is_false (may a) || c) (s b i.1))
  passes_same count p q s (choice a b) i = ap₂ ◌&&◌ (s a i.0) (s b i.1)
  passes_same count p q s (not a) i = s a i
  passes_same count p q s (repeat a) i = ap (λ (c : Bool). c && is_false (may a)) (s a i)
  passes_same count p q s (indent a r) i = s a i
  passes_same count p q s (position a r) i = s a i
  passes_same count p q s (align a) i = s a i
  passes_same count p q s other i = refl

module _ (nodes rules : List ℕ) (count : ℕ) (inside : (n : ℕ) → n < count → Inside rules count (form nodes n)) (may : ℕ → Bool) where
  well_more : (p q : ℕ → Bool) → More p q → More (well_step nodes rules may p) (well_step nodes rules may q)
  well_more p q m n e = passes_more rules may p q m (form nodes n) e

  well_local :
      (p q : ℕ → Bool)
      → Each (λ n. p n ≡ q n) (nodes_below count)
      → Each (λ n. well_step nodes rules may p n ≡ well_step nodes rules may q n) (nodes_below count)
  well_local p q e =
      each_node (λ n. well_step nodes rules may p n ≡ well_step nodes rules may q n) count
      (λ n h.
      passes_same rules may count p q (λ k l. node_at (λ m. p m ≡ q m) count e k l) (form nodes n) (inside n h))

  well_rounds : (k n : ℕ) → rounds (well_step nodes rules may) well_more (nodes_below count) well_local k n ≡ well_after nodes rules may k n
  unfolding rounds well_after
  well_rounds zero n = refl
  well_rounds (suc k) n = ap (λ (well : ℕ → Bool). passes rules may well (form nodes n)) (fun_ext (λ m. well_rounds k m))

  well_settle : (n : ℕ) → n < count → well_after nodes rules may (suc count) n ≡ well_after nodes rules may count n
  well_settle n h =
      let k = length (nodes_below count) in
      subst (λ (r : ℕ). well_after nodes rules may (suc r) n ≡ well_after nodes rules may r n) (nodes_count count)
      (sym (well_rounds (suc k) n)
      ∙ node_at
      (λ m.
      rounds (well_step nodes rules may) well_more (nodes_below count) well_local (suc k) m
      ≡ rounds (well_step nodes rules may) well_more (nodes_below count) well_local k m) count
      (settled (well_step nodes rules may) well_more (nodes_below count) well_local) n h
      ∙ well_rounds k n)

-- The nodes that the rounds find well formed are those that are: in a table that passes 3, 4 and 5, three rounds of facts
-- a node and then one round a node decide.
pub well_decided : (nodes rules : List ℕ) → table_answer nodes rules ≡ given tt → (n : ℕ) → n < node_count nodes
    → (well_after nodes rules (known_after nodes rules (node_count nodes * 3) nothing) (node_count nodes) n ≡ true) ↔ WellFormed nodes rules (form nodes n)
unfolding well_after
well_decided nodes rules e n h =
    let count = node_count nodes in
    let inside = inside_table nodes rules e in
    let may : ℕ → Bool = known_after nodes rules (count * 3) nothing in (
      well_true nodes rules count inside may (λ k l d. (facts_decided nodes rules count inside k l nothing).1 d)
          count n h,
      all_found nodes rules count inside may (λ k f. known_true nodes rules (count * 3) nothing k f)
          (well_after nodes rules may count) (λ k l f. sym (well_settle nodes rules count inside may k l) ∙ f) n h,
    )
