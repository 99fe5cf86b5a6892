-- What a slice remembers: nothing at first, and once an outcome is kept, that one too.
use Prim.Native.Nat.{ℕ, suc, ◌+◌, ◌*◌, ◌≤◌, ◌<◌}
use mathlib.Core.Path.{◌≡◌, refl, sym, ap, ap₂, ◌∙◌}
use mathlib.Core.Bool.{Bool, true, false, cond, ◌&&◌}
use mathlib.Core.List.{List, [], ◌∷◌, ◌++◌}
use Rattle.std.proofs.Common.{Option, Some, None}
use lib.ListN.{length, get_or, replicate, get_or-replicate, get_or-append, get_or-eq_default, length-replicate}
use lib.Seq.{get_or-append-add}
use lib.Dec.{eqb, ltb}
use native.Mathlib.Omega.{arith}
use borrow.Author.Tests.{ltb-true, ltb-false, eqb-true, eqb-false, lt-ltb, le-ltb}
use Rattle.columns.specs.declared.Upper.{Upper}
use Rattle.columns.specs.declared.Upper.TheVariants.{At, Endless}
use Rattle.columns.specs.declared.Interval.{Interval}
use Rattle.columns.specs.declared.Outcome.{Outcome}
use Rattle.columns.specs.declared.Outcome.TheVariants.{Success, Failure}
use Rattle.columns.specs.Intervals.{to}
use Rattle.memory.specs.Memory.{slot_length, slot_of, end_word, marks, key_words, outcome_words, put_words, has_words}
use Rattle.memory.specs.Memory.{kept_for, upper_from, flag_from, outcome_at, recalled, kept}
use Rattle.memory.specs.InternalRemembers.{Remembers}
use Rattle.memory.proofs.SlotLaws.{length_put, put_before, put_behind, put_there, alike, each_alike, in_list}

-- The words of a flag and an upper end tell both.
upper_back : (b : Bool) (h : Upper) → upper_from (marks b h) (end_word h) ≡ h
upper_back true (At h) = refl
upper_back true Endless = refl
upper_back false (At h) = refl
upper_back false Endless = refl

flag_back : (b : Bool) (h : Upper) → flag_from (marks b h) ≡ b
flag_back true (At h) = refl
flag_back true Endless = refl
flag_back false (At h) = refl
flag_back false Endless = refl

-- An outcome's words, behind any six, are the outcome.
outcome_back :
    (m : List ℕ) (i : ℕ) (x : Outcome)
    → ((k : ℕ) → k < length (outcome_words x) → get_or m (i + (6 + k)) 0 ≡ get_or (outcome_words x) k 0)
    → outcome_at m i ≡ Some x
unfolding outcome_at
outcome_back m i (Failure f) h = rw (h 0 (omega arith), h 1 (omega arith)) refl
outcome_back m i (Success u) h =
    rw (
      h 0 (omega arith),
      h 1 (omega arith),
      h 2 (omega arith),
      h 3 (omega arith),
      h 4 (omega arith),
      h 5 (omega arith),
      upper_back u.flag u.interval.upper,
      flag_back u.flag u.interval.upper,
    )
    refl

short : (x : Outcome) → length (outcome_words x) ≤ 6
short (Failure f) = omega arith
short (Success u) = omega arith

-- Two lists with the same words from an index on: the same is there, and the same outcome.
has_same :
    (l m : List ℕ) (i : ℕ) (xs : List ℕ)
    → ((k : ℕ) → i ≤ k → k < i + length xs → get_or l k 0 ≡ get_or m k 0)
    → has_words l i xs ≡ has_words m i xs
unfolding has_words
has_same l m i [] h = refl
has_same l m i (x ∷ xs) h =
    ap₂ (λ (y : ℕ) (p : Bool). eqb y x && p) (h i (omega arith) (omega arith))
    (has_same l m (suc i) xs (λ k p q. h k (omega arith) (omega arith)))

outcome_same :
    (l m : List ℕ) (i : ℕ)
    → ((k : ℕ) → i ≤ k → k < i + slot_length → get_or l k 0 ≡ get_or m k 0)
    → outcome_at l i ≡ outcome_at m i
unfolding outcome_at
outcome_same l m i h =
    let at : (k : ℕ) → k < 12 → get_or l (i + k) 0 ≡ get_or m (i + k) 0 = λ k b. h (i + k) (omega arith) (omega arith) in
    rw
    (at 6 (omega arith), at 7 (omega arith), at 8 (omega arith), at 9 (omega arith), at 10 (omega arith), at 11 (omega arith))
    refl

-- Slots are whole slots apart.
apart : (p q k : ℕ) → (p * 12 ≡ q * 12 → ⊥) → q * 12 ≤ k → k < q * 12 + 12 → p * 12 ≤ k → p * 12 + 12 ≤ k
apart p q k f a b c = omega arith

is_found : (short there : Bool) (o : Option Outcome) {x : Outcome} → cond short None (cond there o None) ≡ Some x → (there ≡ true) × (o ≡ Some x)
is_found true there o e = absurd (let z : ◌≡◌ {A = ℕ} 0 1 = cc in omega arith)
is_found false true o e = (refl, e)
is_found false false o e = absurd (let z : ◌≡◌ {A = ℕ} 0 1 = cc in omega arith)

-- What is found for a key.
module _ (n τ w : ℕ) (I : Interval) (b : Bool) where
  abbrev key : List ℕ
  key = key_words n τ w I b

  abbrev at : List ℕ → ℕ
  at m = slot_of m n τ w I b

  slot_in : (m : List ℕ) → slot_length ≤ length m → at m + slot_length ≤ length m
  unfolding slot_of
  slot_in m h = in_list _ (length m) h

  slot_same : (l m : List ℕ) → length l ≡ length m → at l ≡ at m
  unfolding slot_of
  slot_same l m e = rw e refl

  recalled_is : (m : List ℕ) {x : Outcome} → recalled m n τ w I b ≡ Some x → (kept_for m (at m) n τ w I b ≡ true) × (outcome_at m (at m) ≡ Some x)
  unfolding recalled
  recalled_is m e = is_found (ltb (length m) 12) (kept_for m (at m) n τ w I b) (outcome_at m (at m)) e

  recalled_same :
      (l m : List ℕ)
      → length l ≡ length m
      → ((k : ℕ) → at m ≤ k → k < at m + slot_length → get_or l k 0 ≡ get_or m k 0)
      → recalled l n τ w I b ≡ recalled m n τ w I b
  unfolding recalled kept_for
  recalled_same l m e h =
      let p = has_same l m (at m) key (λ k a b. h k a (omega arith)) in
      let q = outcome_same l m (at m) h in
      rw (slot_same l m e, e, p, q) refl

-- A slice of zeros remembers nothing.
zeros : (k i : ℕ) → ◌≡◌ {A = ℕ} (get_or (replicate k 0) i 0) 0
zeros k i = by_length (ltb i k) refl
  where
    by_length : (p : Bool) → ltb i k ≡ p → ◌≡◌ {A = ℕ} (get_or (replicate k 0) i 0) 0
    by_length true e = get_or-replicate {A = ℕ} k i 0 0 (ltb-true i k e)
    by_length false e =
        let l = length-replicate {A = ℕ} k 0 in
        let f = ltb-false i k e in
        get_or-eq_default (replicate k 0) 0 (omega arith)

no_outcome : (k i : ℕ) → outcome_at (replicate k 0) i ≡ None
unfolding outcome_at
no_outcome k i = rw (zeros k (i + 6)) refl

pub nothing_kept : (P : ℕ → ℕ → ℕ → Interval → Bool → Outcome → Type 0) (k : ℕ) → Remembers P (replicate k 0)
nothing_kept P k = record { each = λ n τ w I b x e. absurd (none n τ w I b x e) }
  where
    none : (n τ w : ℕ) (I : Interval) (b : Bool) (x : Outcome) → recalled (replicate k 0) n τ w I b ≡ Some x → ⊥
    none n τ w I b x e =
        let p = (recalled_is n τ w I b (replicate k 0) e).1 in
        let q = no_outcome k (slot_of (replicate k 0) n τ w I b) in
        let z : ◌≡◌ {A = ℕ} 0 1 = cc in
        omega arith

-- An outcome is kept.
module _ (m : List ℕ) (n τ w : ℕ) (I : Interval) (b : Bool) (x : Outcome) where
  abbrev all : List ℕ
  all = key_words n τ w I b ++ outcome_words x

  abbrev i : ℕ
  i = slot_of m n τ w I b

  abbrev put : List ℕ
  put = put_words m i all

  kept_none : length m < slot_length → kept m n τ w I b x ≡ m
  unfolding kept
  kept_none h = rw (lt-ltb (length m) 12 h) refl

  kept_put : slot_length ≤ length m → kept m n τ w I b x ≡ put
  unfolding kept
  kept_put h = rw (le-ltb (length m) 12 h) refl

  pub length_kept : length (kept m n τ w I b x) ≡ length m
  length_kept = by_room (ltb (length m) 12) refl
    where
      by_room : (p : Bool) → ltb (length m) 12 ≡ p → length (kept m n τ w I b x) ≡ length m
      by_room true e = rw (kept_none (ltb-true (length m) 12 e)) refl
      by_room false e = rw (kept_put (ltb-false (length m) 12 e)) (length_put m i all)

  module _ (h : slot_length ≤ length m) where
    here : (k : ℕ) → k < length all → get_or put (i + k) 0 ≡ get_or all k 0
    here k f =
        let s = short x in
        let r = slot_in n τ w I b m h in
        put_there m i all k (i + k) refl (omega arith) f

    outcome_here : outcome_at put i ≡ Some x
    outcome_here = outcome_back put i x (λ k f. here (6 + k) (omega arith) ∙ get_or-append-add (key_words n τ w I b) (outcome_words x) k 0)

    elsewhere : (k : ℕ) → (i ≤ k → i + slot_length ≤ k) → get_or put k 0 ≡ get_or m k 0
    elsewhere k f = by_side (ltb k i) refl
      where
        by_side : (p : Bool) → ltb k i ≡ p → get_or put k 0 ≡ get_or m k 0
        by_side true e = put_before m i all k (ltb-true k i e)
        by_side false e =
            let s = short x in
            let r = f (ltb-false k i e) in
            put_behind m i all k (omega arith)

    key_here : has_words put i (key_words n τ w I b) ≡ true
    key_here =
        alike put i (key_words n τ w I b)
        (λ k j e f. rw e (here k (omega arith) ∙ get_or-append (key_words n τ w I b) (outcome_words x) 0 k f))

    pub recalled_kept : recalled (kept m n τ w I b x) n τ w I b ≡ Some x
    unfolding recalled kept_for
    recalled_kept =
        let l = length_put m i all in
        rw (kept_put h, l, le-ltb (length m) 12 h, slot_same n τ w I b put m l, key_here) outcome_here

    module _ (n' τ' w' : ℕ) (I' : Interval) (b' : Bool) (y : Outcome) (e : recalled put n' τ' w' I' b' ≡ Some y) where
      abbrev j : ℕ
      j = slot_of m n' τ' w' I' b'

      -- Another slot: it was found there before.
      before : (i ≡ j → ⊥) → recalled m n' τ' w' I' b' ≡ Some y
      unfolding slot_of
      before f =
          sym
          (recalled_same n' τ' w' I' b' put m (length_put m i all) (λ k p q. elsewhere k (λ r. apart _ _ k f p q r)))
          ∙ e

      -- The same slot: the same key and the outcome that is kept.
      module _ (f : i ≡ j) where
        slot_put : slot_of put n' τ' w' I' b' ≡ i
        slot_put = slot_same n' τ' w' I' b' put m (length_put m i all) ∙ sym f

        key_same : (k : ℕ) → k < 6 → get_or all k 0 ≡ get_or (key_words n' τ' w' I' b') k 0
        unfolding kept_for
        key_same k g =
            let q : has_words put i (key_words n' τ' w' I' b') ≡ true = rw slot_put at (recalled_is n' τ' w' I' b' put e).0 in
            sym (here k (omega arith)) ∙ each_alike put i (key_words n' τ' w' I' b') q k (i + k) refl g

        outcome_is : x ≡ y
        outcome_is =
            let q : outcome_at put i ≡ Some y = rw slot_put at (recalled_is n' τ' w' I' b' put e).1 in
            let r = outcome_here in
            cc

        flag_is : b ≡ b'
        flag_is = sym (flag_back b I.upper) ∙ ap flag_from (key_same 3 (omega arith)) ∙ flag_back b' I'.upper

        upper_is : I.upper ≡ I'.upper
        upper_is =
            sym (upper_back b I.upper) ∙ ap₂ upper_from (key_same 3 (omega arith)) (key_same 5 (omega arith)) ∙ upper_back b' I'.upper

        interval_is : I ≡ I'
        interval_is = ap₂ to (key_same 4 (omega arith)) upper_is

        same_key : (P : ℕ → ℕ → ℕ → Interval → Bool → Outcome → Type 0) → P n τ w I b x → P n' τ' w' I' b' y
        same_key P p =
            let q0 : n ≡ n' = key_same 0 (omega arith) in
            let q1 : τ ≡ τ' = key_same 1 (omega arith) in
            let q2 : w ≡ w' = key_same 2 (omega arith) in
            rw (← q0, ← q1, ← q2, ← interval_is, ← flag_is, ← outcome_is) p

pub remembers_kept :
    {P : ℕ → ℕ → ℕ → Interval → Bool → Outcome → Type 0} {m : List ℕ}
    → Remembers P m
    → (n τ w : ℕ) (I : Interval) (b : Bool) (x : Outcome)
    → P n τ w I b x
    → Remembers P (kept m n τ w I b x)
remembers_kept {P} {m} r n τ w I b x p = by_room (ltb (length m) 12) refl
  where
    by_room : (q : Bool) → ltb (length m) 12 ≡ q → Remembers P (kept m n τ w I b x)
    by_room true e = rw (kept_none m n τ w I b x (ltb-true (length m) 12 e)) r
    by_room false e =
        let h = ltb-false (length m) 12 e in
        rw (kept_put m n τ w I b x h) (record { each = by_slot h })
      where
        by_slot :
            (h : slot_length ≤ length m) (n' τ' w' : ℕ) (I' : Interval) (b' : Bool) (y : Outcome)
            → recalled (put m n τ w I b x) n' τ' w' I' b' ≡ Some y
            → P n' τ' w' I' b' y
        by_slot h n' τ' w' I' b' y f = by_equal (eqb (slot_of m n τ w I b) (slot_of m n' τ' w' I' b')) refl
          where
            by_equal : (q : Bool) → eqb (slot_of m n τ w I b) (slot_of m n' τ' w' I' b') ≡ q → P n' τ' w' I' b' y
            by_equal true d = same_key m n τ w I b x h n' τ' w' I' b' y f (eqb-true _ _ d) P p
            by_equal false d = r.each n' τ' w' I' b' y (before m n τ w I b x h n' τ' w' I' b' y f (eqb-false _ _ d))
