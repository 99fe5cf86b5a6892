-- The verdict over the nodes in rising order: how it is come by, and what it means by the least relations.
use Prim.Native.Nat.{ℕ, zero, suc, ◌+◌, ◌-◌, ◌<◌, ◌≤◌}
use mathlib.Core.Path.{◌≡◌, refl, sym, ap, ap₂, ◌∙◌}
use mathlib.Core.Bool.{Bool, true, false, cond, true≢false}
use mathlib.Core.List.{List}
use mathlib.Core.Logic.{◌↔◌, ⊎_elim}
use native.Mathlib.Nat.{eq-or-lt_of_le}
use native.Mathlib.Omega.{arith}
use Rattle.table.proofs.Orders.{le_or_lt}
use Rattle.table.specs.Answer.{Answer, given, refused, refused_at, and_then}
use Rattle.table.specs.Refusals.{turned_down}
use Rattle.table.specs.declared.refusals.Refusal.{Refusal}
use Rattle.table.proofs.AnswerLaws.{turned_first, first_passes, table_nameless}
use Rattle.table.specs.Checks.{table_answer}
use Rattle.table.specs.Form.{form, node_count}
use Rattle.well_formed.specs.WellFormed.{WellFormed, Passes, LowestBad}
use Rattle.well_formed.specs.Check.{may_nothing, is_well, verdict_from, check_answer, Means}
use Rattle.well_formed.proofs.DecidedLaws.{well_decided}
use Rattle.well_formed.proofs.PassLaws.{not_so}

module _ (well : ℕ → Bool) (count n : ℕ) (below : n < count) where
  -- The nodes that are left, n and those after it.
  one_less : count - n ≡ suc (count - (n + 1))
  one_less = omega arith

  -- A node that passes hands on to the next.
  pub verdict_next : well n ≡ true → verdict_from well n (count - n) ≡ verdict_from well (n + 1) (count - (n + 1))
  unfolding verdict_from
  verdict_next e = ap (verdict_from well n) one_less ∙ (let s : n + 1 ≡ suc n = omega arith in rw (e, s) refl)

  -- One that does not is named.
  pub verdict_bad : well n ≡ false → verdict_from well n (count - n) ≡ refused_at 7 n
  unfolding verdict_from
  verdict_bad e = ap (verdict_from well n) one_less ∙ rw e refl

-- Two tests that agree on the nodes give the same verdict.
pub verdict_same : (p q : ℕ → Bool) (n left : ℕ) → ((k : ℕ) → k < n + left → p k ≡ q k) → verdict_from p n left ≡ verdict_from q n left
unfolding verdict_from
verdict_same p q n zero h = refl
verdict_same p q n (suc left) h =
    ap₂ (λ (b : Bool) (v : Answer Unit). cond b v (refused_at 7 n)) (h n (omega arith)) (verdict_same p q (suc n) left (λ k l. h k (omega arith)))

-- What a verdict over so many nodes from n on says of the test.
module _ (well : ℕ → Bool) where
  -- Node m does not pass, and every node from n up to it does.
  pub record First (n left m : ℕ) : Type 0 where
    pub from : n ≤ m
    pub below : m < n + left
    pub bad : well m ≡ false
    pub lower : (k : ℕ) → n ≤ k → k < m → well k ≡ true

  data Says (n left : ℕ) : Answer Unit → Type 0 where
    all_pass : ((k : ℕ) → n ≤ k → k < n + left → well k ≡ true) → Says n left (given tt)
    first_bad : (m : ℕ) → First n left m → Says n left (refused_at 7 m)

  -- One node more that passes, before the others.
  one_more : (n left : ℕ) {v : Answer Unit} → well n ≡ true → Says (suc n) left v → Says n (suc left) v
  one_more n left e (all_pass h) = all_pass (λ k l m. ⊎_elim (λ q. rw (← q) e) (λ j. h k j (omega arith)) (eq-or-lt_of_le l))
  one_more n left e (first_bad m f) =
      let a = f.from in
      let b = f.below in
      first_bad m (record { from = omega arith; below = omega arith; bad = f.bad; lower = λ k l j. ⊎_elim (λ q. rw (← q) e) (λ i. f.lower k i j) (eq-or-lt_of_le l) })

  says : (n left : ℕ) → Says n left (verdict_from well n left)
  unfolding verdict_from
  says n zero = all_pass (λ k l m. absurd (omega arith))
  says n (suc left) = by_test (well n) refl (says (suc n) left)
    where
      by_test :
          (b : Bool)
          → well n ≡ b
          → Says (suc n) left (verdict_from well (suc n) left)
          → Says n (suc left) (cond (well n) (verdict_from well (suc n) left) (refused_at 7 n))
      by_test true e h = rw e (one_more n left e h)
      by_test false e h = rw e (first_bad n (record { from = omega arith; below = omega arith; bad = e; lower = λ k l j. absurd (omega arith) }))

  module _ (n left : ℕ) where
    passes_all : {v : Answer Unit} → Says n left v → v ≡ given tt → (k : ℕ) → n ≤ k → k < n + left → well k ≡ true
    passes_all (all_pass h) e = h
    passes_all (first_bad m f) e = absurd (let z : ◌≡◌ {A = ℕ} 0 1 = cc in omega arith)

    all_passes : {v : Answer Unit} → Says n left v → ((k : ℕ) → n ≤ k → k < n + left → well k ≡ true) → v ≡ given tt
    all_passes (all_pass h) g = refl
    all_passes (first_bad m f) g = absurd (true≢false (sym (g m f.from f.below) ∙ f.bad))

    names_first : {v : Answer Unit} → Says n left v → (m : ℕ) → v ≡ refused_at 7 m → First n left m
    names_first (all_pass h) m e = absurd (let z : ◌≡◌ {A = ℕ} 0 1 = cc in omega arith)
    names_first (first_bad k f) m e = let q : k ≡ m = cc in rw (← q) f

    same_first : (m k : ℕ) → First n left m → First n left k → m ≡ k
    same_first m k f g =
        ⊎_elim (λ l. ⊎_elim (λ q. q) (λ j. absurd (true≢false (sym (g.lower m f.from j) ∙ f.bad))) (eq-or-lt_of_le l))
        (λ j. absurd (true≢false (sym (f.lower k g.from j) ∙ g.bad))) (le_or_lt m k)

    first_named : {v : Answer Unit} → Says n left v → (m : ℕ) → First n left m → v ≡ refused_at 7 m
    first_named (all_pass h) m f = absurd (true≢false (sym (h m f.from f.below) ∙ f.bad))
    first_named (first_bad k g) m f = ap (refused_at 7) (same_first k m g f)

-- The check's answer means what the least relations say.
module _ (nodes rules : List ℕ) (passing : table_answer nodes rules ≡ given tt) where
  decided : (n : ℕ) → n < node_count nodes → (is_well nodes rules n ≡ true) ↔ WellFormed nodes rules (form nodes n)
  unfolding is_well may_nothing
  decided n h = well_decided nodes rules passing n h

  not_well : (n : ℕ) → n < node_count nodes → is_well nodes rules n ≡ false → WellFormed nodes rules (form nodes n) → ⊥
  not_well n h e d = true≢false (sym ((decided n h).1 d) ∙ e)

  well_bad : (n : ℕ) → n < node_count nodes → (WellFormed nodes rules (form nodes n) → ⊥) → is_well nodes rules n ≡ false
  well_bad n h f = not_so (is_well nodes rules n) (λ e. f ((decided n h).0 e))

  verdict_passes : (verdict_from (is_well nodes rules) 0 (node_count nodes) ≡ given tt) ↔ Passes nodes rules
  verdict_passes = (
    λ e.
        record {
          every = λ n h. (decided n h).0
              (passes_all (is_well nodes rules) 0 (node_count nodes)
              (says (is_well nodes rules) 0 (node_count nodes)) e n (omega arith) (omega arith));
        },
    λ p.
        all_passes (is_well nodes rules) 0 (node_count nodes) (says (is_well nodes rules) 0 (node_count nodes))
        (λ k l m. (decided k (omega arith)).1 (p.every k (omega arith))),
  )

  lowest_of : (n : ℕ) → First (is_well nodes rules) 0 (node_count nodes) n → LowestBad nodes rules n
  lowest_of n f =
      let b = f.below in
      let h : n < node_count nodes = omega arith in
      record { there = h; bad = not_well n h f.bad; lower = λ k l. (decided k (omega arith)).0 (f.lower k (omega arith) l) }

  first_of : (n : ℕ) → LowestBad nodes rules n → First (is_well nodes rules) 0 (node_count nodes) n
  first_of n b =
      let h = b.there in
      record { from = omega arith; below = omega arith; bad = well_bad n h b.bad; lower = λ k l j. (decided k (omega arith)).1 (b.lower k j) }

  verdict_names : (n : ℕ) → (verdict_from (is_well nodes rules) 0 (node_count nodes) ≡ refused_at 7 n) ↔ LowestBad nodes rules n
  verdict_names n = (
    λ e. lowest_of n (names_first (is_well nodes rules) 0 (node_count nodes) (says (is_well nodes rules) 0 (node_count nodes)) n e),
    λ b. first_named (is_well nodes rules) 0 (node_count nodes) (says (is_well nodes rules) 0 (node_count nodes)) n (first_of n b),
  )

-- For every table and its rules.
pub check_means : (nodes rules : List ℕ) → Means nodes rules (check_answer nodes rules)
unfolding check_answer
check_means nodes rules = by_table (table_answer nodes rules) refl
  where
    by_table : (t : Answer Unit) → table_answer nodes rules ≡ t → Means nodes rules (and_then (table_answer nodes rules) (verdict_from (is_well nodes rules) 0 (node_count nodes)))
    by_table (given tt) e =
        rw e (record {
          passes = (λ p. (e, (verdict_passes nodes rules e).0 p), λ p. (verdict_passes nodes rules e).1 p.1);
          named = λ n. (λ p. (e, (verdict_names nodes rules e n).0 p), λ p. (verdict_names nodes rules e n).1 p.1);
        })
    by_table (refused k) e =
        rw e (record {
          passes = (λ p. absurd (let z : ◌≡◌ {A = ℕ} 0 1 = cc in omega arith), λ p. absurd (let q = p.0 in let z : ◌≡◌ {A = ℕ} 0 1 = cc in omega arith));
          named = λ n. (λ p. absurd (let z : ◌≡◌ {A = ℕ} 0 1 = cc in omega arith), λ p. absurd (let q = p.0 in let z : ◌≡◌ {A = ℕ} 0 1 = cc in omega arith));
        })
    by_table (refused_at k m) e = absurd (table_nameless nodes rules k m e)

-- An answer that is the check's, with what it means.
module _ (nodes rules : List ℕ) {v : Answer Unit} where
  with_meaning : v ≡ check_answer nodes rules → (v ≡ check_answer nodes rules) × Means nodes rules v
  with_meaning e = (e, rw e (check_means nodes rules))

  -- A table that is refused.
  pub answer_refused : (r : Refusal) → turned_down r ≡ table_answer nodes rules → v ≡ turned_down r → (v ≡ check_answer nodes rules) × Means nodes rules v
  unfolding check_answer
  answer_refused r e q = with_meaning (q ∙ rw (← e) (sym (turned_first Unit r _)))

  -- One that is not.
  pub answer_judged : table_answer nodes rules ≡ given tt → v ≡ verdict_from (is_well nodes rules) 0 (node_count nodes) → (v ≡ check_answer nodes rules) × Means nodes rules v
  unfolding check_answer
  answer_judged e q = with_meaning (q ∙ first_passes _ (sym e))
