-- Cells in a list: what setting one changes, and the start with none set.
use Rattle.std.proofs.Common.{◌≡◌, ℕ, zero, suc, ◌<◌, Bool, true, false, ◌||◌, List, [], ◌∷◌, length, get_or, refl, sym, ap, ap₂, arith, ◌∙◌, ◌⊎◌, inl, inr}
use mathlib.Core.Bool.{or-true, true≢false, false≢true, not, beq, ◌&&◌}
use mathlib.Core.Logic.{⊎_elim}
use borrow.Author.Tests.{not-false}
use lib.ListN.{set, replicate}
use lib.Seq.{get_or-set_same}
use Rattle.table.proofs.Every.{and_left, and_right}
use Rattle.form_facts.specs.OneForm.{fact_of}
use Rattle.form_facts.specs.declared.Facts.{Facts}
use Rattle.well_formed.specs.Facts.{Fact, nothing, something, fails}
use Rattle.well_formed.specs.InternalPasses.{Cell, cell, no_facts, known}
use Rattle.well_formed.proofs.RoundLaws.{one_of}
use Rattle.well_formed.proofs.PassLaws.{Change}

set_at : {A : Type 0} (cells : List A) (n m : ℕ) (v d : A) → n < length cells
    → ((m ≡ n) × (get_or (set cells n v) m d ≡ v)) ⊎ (get_or (set cells n v) m d ≡ get_or cells m d)
set_at [] n m v d h = absurd (omega arith)
set_at (x ∷ xs) zero zero v d h = inl (refl, refl)
set_at (x ∷ xs) zero (suc m) v d h = inr refl
set_at (x ∷ xs) (suc n) zero v d h = inr refl
set_at (x ∷ xs) (suc n) (suc m) v d h = ⊎_elim (λ e. inl (ap suc e.0, e.1)) (λ e. inr e) (set_at xs n m v d (omega arith))

-- Cells that are all alike.
pub all_alike : {A : Type 0} (count n : ℕ) (v : A) → get_or (replicate count v) n v ≡ v
all_alike zero n v = refl
all_alike (suc k) zero v = refl
all_alike (suc k) (suc n) v = all_alike k n v

-- A node's cell is set, which was not.
pub node_change : (cells : List Bool) (n : ℕ) (b : Bool) → n < length cells → b ≡ true → get_or cells n false ≡ false
    → Change (λ m. get_or cells m false) (λ m. get_or (set cells n true) m false) (λ m. m ≡ n) (λ m. b) true
node_change cells n b h e f =
    record {
      stays = λ d k. ⊎_elim (λ s. s.1) (λ s. s ∙ k) (set_at cells n d true false h);
      only = λ d k. ⊎_elim (λ s. inr (s.0, e)) (λ s. inl (sym s ∙ k)) (set_at cells n d true false h);
      set_now = λ d a k. rw a (get_or-set_same cells n true false h);
      none = λ g. absurd (true≢false g);
      one = λ g. (n, refl, e, f);
    }

-- Facts that agree on each.
three_facts : Bool → Bool → Bool → Facts
three_facts a b c = record { nothing = a; something = b; fails = c }

same_facts : (f g : Facts) → ((x : Fact) → fact_of f x ≡ fact_of g x) → f ≡ g
unfolding three_facts
same_facts f g h = ap₂ (λ (k : Bool → Facts) (c : Bool). k c) (ap₂ three_facts (h nothing) (h something)) (h fails)

-- No fact, by each.
pub none_is : (f : Facts) → (f.nothing ≡ false) × ((f.something ≡ false) × (f.fails ≡ false)) → f ≡ no_facts
none_is f e = same_facts f no_facts each
  where
    each : (x : Fact) → fact_of f x ≡ fact_of no_facts x
    each nothing = e.0
    each something = e.1.0
    each fails = e.1.1

-- A cell that is read with no fact past the cells.
pub cell_is : (cells : List Facts) (n : ℕ) {f past : Facts} → f ≡ get_or cells n past → past ≡ no_facts → f ≡ get_or cells n no_facts
cell_is cells n e q = e ∙ ap (get_or cells n) q

-- Facts are the same exactly where a test of each says so.
abbrev tests : Facts → Facts → Bool
tests f g = beq f.nothing g.nothing && (beq f.something g.something && beq f.fails g.fails)

equal_test : (a b : Bool) → beq a b ≡ true → a ≡ b
equal_test true true e = refl
equal_test true false e = sym e
equal_test false true e = e
equal_test false false e = refl

self_test : (a : Bool) → beq a a ≡ true
self_test true = refl
self_test false = refl

pub same_by_tests : (f g : Facts) → not (tests f g) ≡ false → f ≡ g
same_by_tests f g e = same_facts f g each
  where
    all : tests f g ≡ true
    all = not-false _ e

    rest : (beq f.something g.something && beq f.fails g.fails) ≡ true
    rest = and_right (beq f.nothing g.nothing) _ all

    each : (x : Fact) → fact_of f x ≡ fact_of g x
    each nothing = equal_test _ _ (and_left _ (beq f.something g.something && beq f.fails g.fails) all)
    each something = equal_test _ _ (and_left _ (beq f.fails g.fails) rest)
    each fails = equal_test _ _ (and_right (beq f.something g.something) _ rest)

pub other_by_tests : (f g : Facts) → not (tests f g) ≡ true → f ≡ g → ⊥
other_by_tests f g e q =
    let d : not (tests g g) ≡ true = rw q at e in
    false≢true (rw (self_test g.nothing, self_test g.something, self_test g.fails) at d)

more_or_same : (a b : Bool) → ((b ≡ true) × (a ≡ false)) ⊎ ((a || b) ≡ a)
more_or_same true b = inr refl
more_or_same false true = inl (refl, refl)
more_or_same false false = inr refl

-- The facts of node n are joined by new ones, which makes them other facts.
module _ (cells : List Facts) (n : ℕ) (new now : Facts) (inside : n < length cells)
    (j : (x : Fact) → fact_of now x ≡ (fact_of (get_or cells n no_facts) x || fact_of new x)) where
  abbrev old : Facts
  old = get_or cells n no_facts

  -- One of the new facts was not known.
  differs : (now ≡ old → ⊥) → (x : Fact) × (fact_of new x ≡ true) × (fact_of old x ≡ false)
  differs ne = by_tests (test nothing) (test something) (test fails)
    where
      test : (x : Fact) → ((fact_of new x ≡ true) × (fact_of old x ≡ false)) ⊎ (fact_of now x ≡ fact_of old x)
      test x = ⊎_elim (λ e. inl e) (λ e. inr (j x ∙ e)) (more_or_same (fact_of old x) (fact_of new x))

      by_tests :
          ((fact_of new nothing ≡ true) × (fact_of old nothing ≡ false)) ⊎ (fact_of now nothing ≡ fact_of old nothing)
          → ((fact_of new something ≡ true) × (fact_of old something ≡ false)) ⊎ (fact_of now something ≡ fact_of old something)
          → ((fact_of new fails ≡ true) × (fact_of old fails ≡ false)) ⊎ (fact_of now fails ≡ fact_of old fails)
          → (x : Fact) × (fact_of new x ≡ true) × (fact_of old x ≡ false)
      by_tests (inl e) f g = (nothing, e.0, e.1)
      by_tests (inr e) (inl f) g = (something, f.0, f.1)
      by_tests (inr e) (inr f) (inl g) = (fails, g.0, g.1)
      by_tests (inr e) (inr f) (inr g) = absurd (ne (same_facts now old all))
        where
          all : (x : Fact) → fact_of now x ≡ fact_of old x
          all nothing = e
          all something = f
          all fails = g

  at_node : (c : Cell) → c.node ≡ n → known cells c.fact c.node ≡ true → fact_of old c.fact ≡ true
  at_node c q e = rw q at e

  pub facts_change : (now ≡ old → ⊥)
      → Change (λ (c : Cell). known cells c.fact c.node) (λ (c : Cell). known (set cells n now) c.fact c.node)
      (λ (c : Cell). c.node ≡ n) (λ (c : Cell). fact_of new c.fact) true
  facts_change ne =
      record {
        stays = λ c e.
            ⊎_elim
            (λ s. ap (λ (f : Facts). fact_of f c.fact) s.1 ∙ j c.fact ∙ ap (λ (b : Bool). b || fact_of new c.fact) (at_node c s.0 e))
            (λ s. ap (λ (f : Facts). fact_of f c.fact) s ∙ e) (set_at cells n c.node now no_facts inside);
        only = λ c e.
            ⊎_elim
            (λ s.
            ⊎_elim (λ k. inl (rw s.0 k)) (λ k. inr (s.0, k))
            (one_of _ _ (sym (j c.fact) ∙ ap (λ (f : Facts). fact_of f c.fact) (sym s.1) ∙ e)))
            (λ s. inl (ap (λ (f : Facts). fact_of f c.fact) (sym s) ∙ e)) (set_at cells n c.node now no_facts inside);
        set_now = λ c a e.
            ap (λ (m : ℕ). known (set cells n now) c.fact m) a
            ∙ ap (λ (f : Facts). fact_of f c.fact) (get_or-set_same cells n now no_facts inside)
            ∙ j c.fact
            ∙ ap (λ (b : Bool). fact_of old c.fact || b) e
            ∙ or-true (fact_of old c.fact);
        none = λ g. absurd (true≢false g);
        one = λ g. let w = differs ne in (cell w.0 n, refl, w.1, w.2);
      }

  -- Where they are the same facts, the new ones were known.
  pub facts_known : now ≡ old → (c : Cell) → c.node ≡ n → fact_of new c.fact ≡ true → known cells c.fact c.node ≡ true
  facts_known q c a e =
      ap (λ (m : ℕ). known cells c.fact m) a
      ∙ ap (λ (f : Facts). fact_of f c.fact) (sym q)
      ∙ j c.fact
      ∙ ap (λ (b : Bool). fact_of old c.fact || b) e
      ∙ or-true (fact_of old c.fact)
