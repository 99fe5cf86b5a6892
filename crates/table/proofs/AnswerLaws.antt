-- One part after another, by what the first answers, and answers that name no node.
use Prim.Native.Nat.{ℕ}
use mathlib.Core.Path.{◌≡◌, refl}
use mathlib.Core.Bool.{Bool, true, false}
use mathlib.Core.List.{List}
use native.Mathlib.Omega.{arith}
use Rattle.table.specs.Answer.{Answer, given, refused, refused_at, refuse_if, and_then, afterwards}
use Rattle.table.specs.Refusals.{turned_down}
use Rattle.table.specs.declared.refusals.Refusal.{Refusal}
use Rattle.table.specs.Checks.{fails3, fails4, fails5, table_answer}

module _ {A B : Type 0} {first : Answer B} where
  -- A first part that refuses.
  pub first_refuses : {number : ℕ} (next : Answer A) → refused number ≡ first → refused number ≡ and_then first next
  first_refuses next e = rw (← e) refl

  pub first_names : {number node : ℕ} (next : Answer A) → refused_at number node ≡ first → refused_at number node ≡ and_then first next
  first_names next e = rw (← e) refl

  -- A first part that passes.
  pub first_passes : {x : B} (next : Answer A) → given x ≡ first → next ≡ and_then first next
  first_passes next e = rw (← e) refl

-- A first part that turns down.
pub turned_first : {A : Type 0} (B : Type 0) (r : Refusal) (next : Answer A) → and_then (turned_down {A = B} r) next ≡ turned_down r
turned_first B r next = grind arith

-- A call that is turned down leaves a lent slice as it was.
pub turned_keeps : (A : Type 0) (r : Refusal) (written lent : List ℕ) → afterwards (turned_down {A = A} r) written lent ≡ lent
turned_keeps A r written lent = grind arith

-- Both parts pass where the two together do.
pub second_given : {A B : Type 0} (first : Answer B) (next : Answer A) (x : A) → given x ≡ and_then first next → given x ≡ next
second_given (given b) next x e = e
second_given (refused number) next x e = absurd (let z : ◌≡◌ {A = ℕ} 0 1 = cc in omega arith)
second_given (refused_at number node) next x e = absurd (let z : ◌≡◌ {A = ℕ} 0 1 = cc in omega arith)

-- A check that an answer passes.
pub if_given : {A : Type 0} (fails : Bool) (n : ℕ) (next : Answer A) {x : A} → refuse_if fails n next ≡ given x → (fails ≡ false) × (next ≡ given x)
if_given true n next e = absurd (let z : ◌≡◌ {A = ℕ} 0 1 = cc in omega arith)
if_given false n next e = (refl, e)

-- An answer that names no node.
abbrev pub Nameless : {A : Type 0} → Answer A → Type 0
Nameless a = (number node : ℕ) → a ≡ refused_at number node → ⊥

module _ {A : Type 0} where
  pub given_nameless : (x : A) → Nameless (given x)
  given_nameless x number node e = let z : ◌≡◌ {A = ℕ} 0 1 = cc in omega arith

  pub if_nameless : (fails : Bool) (n : ℕ) (next : Answer A) → Nameless next → Nameless (refuse_if fails n next)
  if_nameless true n next h number node e = let z : ◌≡◌ {A = ℕ} 0 1 = cc in omega arith
  if_nameless false n next h number node e = h number node e

pub table_nameless : (nodes rules : List ℕ) → Nameless (table_answer nodes rules)
unfolding table_answer
table_nameless nodes rules =
    if_nameless (fails3 nodes rules) 3 _ (if_nameless (fails4 nodes rules) 4 _ (if_nameless (fails5 nodes rules) 5 _ (given_nameless tt)))
