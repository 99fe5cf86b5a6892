-- A table that passes 3, 4 and 5 has its children and rules inside, and its relations among those there are.
use Prim.Native.Nat.{ℕ, zero, suc, ◌<◌, ◌≤◌, ◌%◌}
use mathlib.Core.Path.{◌≡◌, refl}
use mathlib.Core.Bool.{Bool, true, false, not, ◌&&◌, ◌||◌, true≢false, false≢true}
use mathlib.Core.List.{List}
use lib.ListN.{length}
use lib.Dec.{leb, ltb, eqb}
use native.Mathlib.Omega.{arith}
use borrow.Author.Tests.{ltb-true, ltb-false, leb-true, eqb-true}
use Rattle.table.specs.Answer.{Answer, given, refuse_if}
use Rattle.table.specs.Limits.{most_nodes, most_rules, last_terminal, relation_count}
use Rattle.table.specs.Form.{decode, kind_of, a_of, b_of, relation_of, form, node_count, stands_for}
use Rattle.table.specs.Checks.{fails3, fails4, fails5, unused, lower, is_relation, right_words, right_node, table_answer}
use Rattle.table.specs.InternalInside.{Inside}
use Rattle.table.proofs.Every.{every_at, and_left, and_right, both_false}

-- Of three tests that hold, each.
first : (a b c : Bool) → (a && b && c) ≡ true → a ≡ true
first a b c e = and_left a b (and_left (a && b) c e)

second : (a b c : Bool) → (a && b && c) ≡ true → b ≡ true
second a b c e = and_right a b (and_left (a && b) c e)

third : (a b c : Bool) → (a && b && c) ≡ true → c ≡ true
third a b c e = and_right (a && b) c e

module _ (rules : List ℕ) (count n : ℕ) (h : n < count) (there : (k : ℕ) → k < length rules → stands_for rules k < count) where
  below : {a : ℕ} → lower a n ≡ true → a < count
  below {a} e = let k : a < n = ltb-true a n e in omega arith

  words_inside : (kind a b r : ℕ) → right_words (length rules) n kind a b r ≡ true → Inside rules count (decode kind a b r)
  unfolding right_words
  words_inside zero a b r e = tt
  words_inside (suc zero) a b r e = tt
  words_inside (suc (suc zero)) a b r e = there a (ltb-true a (length rules) (first (ltb a (length rules)) (unused b) (unused r) e))
  words_inside (suc (suc (suc zero))) a b r e = (below (first (lower a n) (lower b n) (unused r) e), below (second (lower a n) (lower b n) (unused r) e))
  words_inside (suc (suc (suc (suc zero)))) a b r e = (below (first (lower a n) (lower b n) (unused r) e), below (second (lower a n) (lower b n) (unused r) e))
  words_inside (suc (suc (suc (suc (suc zero))))) a b r e = below (first (lower a n) (unused b) (unused r) e)
  words_inside (suc (suc (suc (suc (suc (suc zero)))))) a b r e = below (first (lower a n) (unused b) (unused r) e)
  words_inside (suc (suc (suc (suc (suc (suc (suc zero))))))) a b r e = below (first (lower a n) (unused b) (is_relation r) e)
  words_inside (suc (suc (suc (suc (suc (suc (suc (suc zero)))))))) a b r e = below (first (lower a n) (unused b) (is_relation r) e)
  words_inside (suc (suc (suc (suc (suc (suc (suc (suc (suc zero))))))))) a b r e = below (first (lower a n) (unused b) (unused r) e)
  words_inside (suc (suc (suc (suc (suc (suc (suc (suc (suc (suc k)))))))))) a b r e = absurd (false≢true e)

-- An unused relation is 0, and a used one is one of those there are.
relation_unused : (r : ℕ) → unused r ≡ true → r < relation_count
relation_unused r e = let z = eqb-true r 0 e in omega arith

words_relation : (rules n kind a b r : ℕ) → right_words rules n kind a b r ≡ true → r < relation_count
unfolding right_words
words_relation rules n zero a b r e = relation_unused r (third (unused a) (unused b) (unused r) e)
words_relation rules n (suc zero) a b r e = relation_unused r (third (leb a last_terminal) (unused b) (unused r) e)
words_relation rules n (suc (suc zero)) a b r e = relation_unused r (third (ltb a rules) (unused b) (unused r) e)
words_relation rules n (suc (suc (suc zero))) a b r e = relation_unused r (third (lower a n) (lower b n) (unused r) e)
words_relation rules n (suc (suc (suc (suc zero)))) a b r e = relation_unused r (third (lower a n) (lower b n) (unused r) e)
words_relation rules n (suc (suc (suc (suc (suc zero))))) a b r e = relation_unused r (third (lower a n) (unused b) (unused r) e)
words_relation rules n (suc (suc (suc (suc (suc (suc zero)))))) a b r e = relation_unused r (third (lower a n) (unused b) (unused r) e)
words_relation rules n (suc (suc (suc (suc (suc (suc (suc zero))))))) a b r e = ltb-true r relation_count (third (lower a n) (unused b) (is_relation r) e)
words_relation rules n (suc (suc (suc (suc (suc (suc (suc (suc zero)))))))) a b r e = ltb-true r relation_count (third (lower a n) (unused b) (is_relation r) e)
words_relation rules n (suc (suc (suc (suc (suc (suc (suc (suc (suc zero))))))))) a b r e = relation_unused r (third (lower a n) (unused b) (unused r) e)
words_relation rules n (suc (suc (suc (suc (suc (suc (suc (suc (suc (suc k)))))))))) a b r e = absurd (false≢true e)

-- The kind is one of those there are.
words_kind : (rules n kind a b r : ℕ) → right_words rules n kind a b r ≡ true → kind < 10
unfolding right_words
words_kind rules n zero a b r e = omega arith
words_kind rules n (suc zero) a b r e = omega arith
words_kind rules n (suc (suc zero)) a b r e = omega arith
words_kind rules n (suc (suc (suc zero))) a b r e = omega arith
words_kind rules n (suc (suc (suc (suc zero)))) a b r e = omega arith
words_kind rules n (suc (suc (suc (suc (suc zero))))) a b r e = omega arith
words_kind rules n (suc (suc (suc (suc (suc (suc zero)))))) a b r e = omega arith
words_kind rules n (suc (suc (suc (suc (suc (suc (suc zero))))))) a b r e = omega arith
words_kind rules n (suc (suc (suc (suc (suc (suc (suc (suc zero)))))))) a b r e = omega arith
words_kind rules n (suc (suc (suc (suc (suc (suc (suc (suc (suc zero))))))))) a b r e = omega arith
words_kind rules n (suc (suc (suc (suc (suc (suc (suc (suc (suc (suc k)))))))))) a b r e = absurd (false≢true e)

-- None of the three numbers applies.
none_fails : (a b c : Bool) → ◌≡◌ {A = Answer Unit} (refuse_if a 3 (refuse_if b 4 (refuse_if c 5 (given tt)))) (given tt) → (a ≡ false) × (b ≡ false) × (c ≡ false)
none_fails true b c e = absurd (let z : ◌≡◌ {A = ℕ} 0 1 = cc in omega arith)
none_fails false true c e = absurd (let z : ◌≡◌ {A = ℕ} 0 1 = cc in omega arith)
none_fails false false true e = absurd (let z : ◌≡◌ {A = ℕ} 0 1 = cc in omega arith)
none_fails false false false e = (refl, refl, refl)

pub unnot : (b : Bool) → not b ≡ false → b ≡ true
unnot true e = refl
unnot false e = absurd (true≢false e)

-- The law.
pub inside_table : (nodes rules : List ℕ) → table_answer nodes rules ≡ given tt → (n : ℕ) → n < node_count nodes → Inside rules (node_count nodes) (form nodes n)
unfolding table_answer fails4 fails5 form
inside_table nodes rules e n h =
    let ok = none_fails (fails3 nodes rules) (fails4 nodes rules) (fails5 nodes rules) e in
    words_inside rules (node_count nodes) n h
    (λ k l. ltb-true (stands_for rules k) (node_count nodes) (every_at (length rules) (λ r. ltb (stands_for rules r) (node_count nodes)) (unnot _ ok.2) k l))
    (kind_of nodes n) (a_of nodes n) (b_of nodes n) (relation_of nodes n)
    (every_at (node_count nodes) (right_node nodes rules) (unnot _ ok.1) n h)

-- Every node's relation is one of those there are.
pub relation_there : (nodes rules : List ℕ) → table_answer nodes rules ≡ given tt → (n : ℕ) → n < node_count nodes → relation_of nodes n < relation_count
unfolding table_answer fails4
relation_there nodes rules e n h =
    let ok = none_fails (fails3 nodes rules) (fails4 nodes rules) (fails5 nodes rules) e in
    words_relation (length rules) n (kind_of nodes n) (a_of nodes n) (b_of nodes n) (relation_of nodes n)
    (every_at (node_count nodes) (right_node nodes rules) (unnot _ ok.1) n h)

-- Every node's kind is one of those there are.
pub kind_there : (nodes rules : List ℕ) → table_answer nodes rules ≡ given tt → (n : ℕ) → n < node_count nodes → kind_of nodes n < 10
unfolding table_answer fails4
kind_there nodes rules e n h =
    let ok = none_fails (fails3 nodes rules) (fails4 nodes rules) (fails5 nodes rules) e in
    words_kind (length rules) n (kind_of nodes n) (a_of nodes n) (b_of nodes n) (relation_of nodes n)
    (every_at (node_count nodes) (right_node nodes rules) (unnot _ ok.1) n h)

-- Its counts are within the limits, and its words are whole nodes.
pub counts_inside :
    (nodes rules : List ℕ)
    → table_answer nodes rules ≡ given tt
    → (length nodes % 4 ≡ 0) × (node_count nodes ≤ most_nodes) × (length rules ≤ most_rules)
unfolding table_answer fails3
counts_inside nodes rules e =
    let ok = (none_fails (fails3 nodes rules) (fails4 nodes rules) (fails5 nodes rules) e).0 in
    let whole = eqb (length nodes % 4) 0 in
    let few = leb 1 (node_count nodes) && leb (node_count nodes) most_nodes in
    let left = both_false (not whole || not few) (ltb most_rules (length rules)) ok in
    let one = both_false (not whole) (not few) left.0 in (
      eqb-true (length nodes % 4) 0 (unnot whole one.0),
      leb-true (node_count nodes) most_nodes (and_right (leb 1 (node_count nodes)) (leb (node_count nodes) most_nodes) (unnot few one.1)),
      ltb-false most_rules (length rules) left.1,
    )

-- A rule that a node names is there.
pub rule_there : (nodes rules : List ℕ) → table_answer nodes rules ≡ given tt → (n : ℕ) → n < node_count nodes → kind_of nodes n ≡ 2 → a_of nodes n < length rules
unfolding table_answer fails4 right_words
rule_there nodes rules e n h q =
    let ok = none_fails (fails3 nodes rules) (fails4 nodes rules) (fails5 nodes rules) e in
    let right : right_words (length rules) n 2 (a_of nodes n) (b_of nodes n) (relation_of nodes n) ≡ true =
    rw q at (every_at (node_count nodes) (right_node nodes rules) (unnot _ ok.1) n h) in
    ltb-true (a_of nodes n) (length rules)
    (first (ltb (a_of nodes n) (length rules)) (unused (b_of nodes n)) (unused (relation_of nodes n)) right)
