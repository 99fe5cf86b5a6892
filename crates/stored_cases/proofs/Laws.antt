-- Laws on lists that a loop writes from the front, on parts that are cut off at the end, and on repeated bytes.
use Rattle.std.proofs.Common.{ℕ, suc, ◌+◌, ◌-◌, ◌≤◌, ◌<◌, min, ◌≡◌, refl, sym, ap, ◌∙◌, List, ◌++◌, length, take, drop, get_or, set, arith, append-nil, add-one, inl, inr}
use Rattle.std.proofs.Math.ListN.{length-set, length-take, length-drop}
use Rattle.std.proofs.Math.Seq.{drop-cons, set_at, append_snoc, paste, paste-zero, drop-length}
use Rattle.std.proofs.lemmas.Bool.{cases_lt}
use Rattle.std.proofs.lemmas.List.{take_min}
use borrow.Author.Tests.{le-leb, le-ltb, lt-ltb}
use Rattle.slices.specs.Copied.{placed}
use Rattle.table.specs.Words.{tabulate}
use Rattle.table.proofs.Words.{length_tabulate}
use Rattle.stored_cases.specs.Parts.{here, room, filled_by, repeats, repeated}

-- A list that is written from the front: after n turns it is the first n values, then the rest of what it was.
pub record Written {A : Type 0} (f : ℕ → A) (before now : List A) (i : ℕ) : Type 0 where
  pub is : now ≡ tabulate i f ++ drop i before
  pub inside : i ≤ length before
  pub long : length now ≡ length before

module _ {A : Type 0} where
  pub written_none : (f : ℕ → A) (before : List A) → Written f before before 0
  unfolding tabulate
  written_none f before = record { is = refl; inside = omega arith; long = refl }

  pub written_more : {f : ℕ → A} {before now : List A} {i : ℕ} → Written f before now i → i < length before → {x : A} → x ≡ f i
      → Written f before (set now i x) (i + 1)
  unfolding tabulate
  written_more {f} {before} {now} {i} w l {x} e =
      record {
        is =
            ap (λ v. set now i v) e
            ∙ ap (λ v. set v i (f i)) (w.is ∙ ap (λ v. tabulate i f ++ v) (drop-cons before i (f i) l))
            ∙ set_at (tabulate i f) (get_or before i (f i)) (drop (suc i) before) (f i) i (length_tabulate i f)
            ∙ sym (append_snoc (tabulate i f) (f i) (drop (suc i) before))
            ∙ rw add-one refl;
        inside = omega arith;
        long = length-set now i x ∙ w.long;
      }

  pub written_all : {f : ℕ → A} {before now : List A} {i : ℕ} → Written f before now i → length before ≤ i → now ≡ tabulate (length before) f
  written_all {f} {before} {now} {i} w l =
      let e : i ≡ length before = omega (arith, w.inside) in
      w.is ∙ rw e (ap (λ v. tabulate (length before) f ++ v) (drop-length before) ∙ append-nil (tabulate (length before) f))

-- The length of a part that is lent: as much as is asked for, and no more than there is.
pub lent : (words : List ℕ) (x asked n : ℕ) → n ≡ length words → x ≡ min asked n → length (take (x - 0) words) ≡ min asked n
lent words x asked n e f = length-take (x - 0) words ∙ omega arith

-- Bytes of the cases that are put where there is room for them.
pub filled : (cases : List ℕ) (at : ℕ) (bytes : List ℕ) (from end : ℕ)
    → placed from (take (room bytes from end) (drop at cases)) bytes ≡ filled_by cases at bytes from end
unfolding filled_by
filled cases at bytes from end =
    let n : ℕ = room bytes from end in
    let s : List ℕ = drop at cases in
    let long : length (take n s) ≡ here cases at n = length-take n s ∙ ap (min n) (length-drop at cases) in
    let same : take (here cases at n) s ≡ take n s = ap (λ k. take (min n k) s) (sym (length-drop at cases)) ∙ take_min n s in
    elim (cases_lt (length bytes) (from + length (take n s))) [
      | inl h ↦
          let z : here cases at n ≡ 0 = omega arith in
          rw (lt-ltb (length bytes) (from + length (take n s)) h) (paste-zero bytes from s ∙ ap (paste bytes from s) (sym z))
      | inr h ↦
          rw (le-ltb (length bytes) (from + length (take n s)) h, same, long) refl
    ]

-- Bytes that repeat those before them: what is still to be done to them gives what is to be done at the start.
module _ (before : List ℕ) (from last distance : ℕ) where
  pub record Repeating (now : List ℕ) (i : ℕ) : Type 0 where
    pub rest : repeats (last - i) i distance now ≡ repeats (last - from) from distance before
    pub near : distance ≤ i
    pub inside : last ≤ length before
    pub long : length now ≡ length before

  pub repeating_none : distance ≤ from → last ≤ length before → Repeating before from
  repeating_none d l = record { rest = refl; near = d; inside = l; long = refl }

  pub repeating_more : {now : List ℕ} {i : ℕ} → Repeating now i → i < last → Repeating (set now i (get_or now (i - distance) 0)) (i + 1)
  unfolding repeats
  repeating_more {now} {i} w l =
      let e : last - i ≡ suc (last - (i + 1)) = omega arith in
      record {
        rest = ap (λ k. repeats k i distance now) (sym e) ∙ w.rest;
        near = omega (arith, w.near);
        inside = w.inside;
        long = length-set now i (get_or now (i - distance) 0) ∙ w.long;
      }

  pub repeating_all : {now : List ℕ} {i : ℕ} → Repeating now i → last ≤ i → distance ≤ from → (end : ℕ) → last ≡ min end (length before)
      → now ≡ repeated before from end distance
  unfolding repeats repeated
  repeating_all {now} {i} w l d end e =
      let z : last - i ≡ 0 = omega arith in
      ap (λ k. repeats k i distance now) (sym z) ∙ w.rest ∙ rw (le-leb distance from d, e)
