-- Words put into a list and looked for there, the place of a slot, and what is kept, over plain values.
use Prim.Native.Nat.{ℕ, zero, suc, ◌+◌, ◌*◌, ◌/◌, ◌%◌, ◌^◌, ◌≤◌, ◌<◌}
use mathlib.Core.Path.{◌≡◌, refl, ◌∙◌}
use mathlib.Core.Bool.{Bool, true, false, ◌&&◌}
use mathlib.Core.List.{List, [], ◌∷◌, ◌++◌}
use lib.ListN.{length, get_or, set, length-set}
use lib.Seq.{get_or-set_same, get_or-set_other}
use lib.Dec.{eqb}
use native.Mathlib.Nat.{mod-lt}
use native.Mathlib.Omega.{arith}
use borrow.Author.Tests.{eqb-true, eq-eqb, le-ltb}
use Rattle.columns.specs.declared.State.{State}
use Rattle.columns.specs.declared.Outcome.{Outcome}
use Rattle.memory.specs.Memory.{slot_length, slot_of, key_words, outcome_words, put_words, has_words}
use Rattle.memory.specs.Memory.{kept}

-- Words that are put.
pub length_put : (m : List ℕ) (i : ℕ) (xs : List ℕ) → length (put_words m i xs) ≡ length m
unfolding put_words
length_put m i [] = refl
length_put m i (x ∷ xs) = length_put (set m i x) (suc i) xs ∙ length-set m i x

pub put_append : (m : List ℕ) (i : ℕ) (xs ys : List ℕ) → put_words m i (xs ++ ys) ≡ put_words (put_words m i xs) (i + length xs) ys
unfolding put_words
put_append m i [] ys = let e : i + 0 ≡ i = omega arith in rw e refl
put_append m i (x ∷ xs) ys =
    let e : i + suc (length xs) ≡ suc i + length xs = omega arith in
    rw e (put_append (set m i x) (suc i) xs ys)

pub put_before : (m : List ℕ) (i : ℕ) (xs : List ℕ) (k : ℕ) → k < i → get_or (put_words m i xs) k 0 ≡ get_or m k 0
unfolding put_words
put_before m i [] k h = refl
put_before m i (x ∷ xs) k h = put_before (set m i x) (suc i) xs k (omega arith) ∙ get_or-set_other m i k x 0 (λ e. omega arith)

pub put_behind : (m : List ℕ) (i : ℕ) (xs : List ℕ) (k : ℕ) → i + length xs ≤ k → get_or (put_words m i xs) k 0 ≡ get_or m k 0
unfolding put_words
put_behind m i [] k h = refl
put_behind m i (x ∷ xs) k h = put_behind (set m i x) (suc i) xs k (omega arith) ∙ get_or-set_other m i k x 0 (λ e. omega arith)

pub put_there :
    (m : List ℕ) (i : ℕ) (xs : List ℕ) (k j : ℕ)
    → j ≡ i + k
    → i + length xs ≤ length m
    → k < length xs
    → get_or (put_words m i xs) j 0 ≡ get_or xs k 0
unfolding put_words
put_there m i [] k j e h b = absurd (omega arith)
put_there m i (x ∷ xs) zero j e h b =
    let q : j ≡ i = omega arith in
    rw q (put_before (set m i x) (suc i) xs i (omega arith) ∙ get_or-set_same m i x 0 (omega arith))
put_there m i (x ∷ xs) (suc k) j e h b =
    let l = length-set m i x in
    put_there (set m i x) (suc i) xs k j (omega arith) (omega arith) (omega arith)

-- Words that are looked for: each is there, or one is not.
pub alike :
    (m : List ℕ) (i : ℕ) (xs : List ℕ)
    → ((k j : ℕ) → j ≡ i + k → k < length xs → get_or m j 0 ≡ get_or xs k 0)
    → has_words m i xs ≡ true
unfolding has_words
alike m i [] h = refl
alike m i (x ∷ xs) h =
    rw (eq-eqb (get_or m i 0) x (h 0 i (omega arith) (omega arith)))
    (alike m (suc i) xs (λ k j e b. h (suc k) j (omega arith) (omega arith)))

and_left : (a b : Bool) → (a && b) ≡ true → a ≡ true
and_left true b e = refl
and_left false b e = e

and_right : (a b : Bool) → (a && b) ≡ true → b ≡ true
and_right true b e = e
and_right false b e = absurd (let z : ◌≡◌ {A = ℕ} 0 1 = cc in omega arith)

pub each_alike :
    (m : List ℕ) (i : ℕ) (xs : List ℕ)
    → has_words m i xs ≡ true
    → (k j : ℕ)
    → j ≡ i + k
    → k < length xs
    → get_or m j 0 ≡ get_or xs k 0
unfolding has_words
each_alike m i [] h k j e b = absurd (omega arith)
each_alike m i (x ∷ xs) h zero j e b =
    let q : j ≡ i = omega arith in
    rw q (eqb-true (get_or m i 0) x (and_left (eqb (get_or m i 0) x) (has_words m (suc i) xs) h))
each_alike m i (x ∷ xs) h (suc k) j e b =
    each_alike m (suc i) xs (and_right (eqb (get_or m i 0) x) (has_words m (suc i) xs) h) k j (omega arith) (omega arith)

-- A slot lies inside the list.
pub in_list : (x k : ℕ) → slot_length ≤ k → x % (k / slot_length) * slot_length + slot_length ≤ k
in_list x k h =
    let p : 0 < k / 12 = omega arith in
    let q = mod-lt x p in
    omega arith

pub slot_fits : (x k : ℕ) → slot_length ≤ k → k < 2 ^ 64 → x % (k / slot_length) * slot_length < 2 ^ 64
slot_fits x k h f = let q = in_list x k h in omega arith

-- What is kept for a node, a mode and a state: the key's words, and behind them the outcome's.
module _ (m : List ℕ) (n τ : ℕ) (s : State) (x : Outcome) where
  abbrev key : List ℕ
  key = key_words n τ s.place s.interval s.flag

  pub kept_in :
      {i : ℕ} {l l' : List ℕ}
      → slot_length ≤ length m
      → i ≡ slot_of m n τ s.place s.interval s.flag
      → l ≡ put_words m i key
      → l' ≡ put_words l (i + 6) (outcome_words x)
      → l' ≡ kept m n τ s.place s.interval s.flag x
  unfolding kept
  kept_in {i} h e p q = rw (le-ltb (length m) 12 h, ← e, put_append m i key (outcome_words x), ← p) q
