-- Bytes put one behind the other.
use Prim.Native.Nat.{ℕ, zero, suc, ◌+◌, ◌-◌, ◌/◌, ◌%◌, ◌≤◌, ◌<◌}
use mathlib.Core.Path.{◌≡◌, refl, sym, ap, ◌∙◌}
use mathlib.Core.Bool.{Bool}
use mathlib.Core.List.{List, [], ◌∷◌, ◌++◌, append_assoc}
use lib.ListN.{length, drop, set, take, length-append}
use lib.Seq.{drop-nil}
use borrow.Author.Tests.{lt-ltb, le-ltb}
use native.Mathlib.Nat.{zero-add, suc-add}
use native.Mathlib.Omega.{arith}
use Rattle.columns.specs.Intervals.{to}
use Rattle.columns.specs.declared.Upper.{Upper}
use Rattle.clauses.specs.Clauses.{success}
use Rattle.answer_line.specs.AnswerLine.{decimal_to, decimal, success_word, space, break, upper_word, flag_word, end_bytes, count_in, slice_in}
use Rattle.answer_line.specs.InternalPut.{pasted, Puts}

-- One element that is stored, and a word.
paste_one : (l : List ℕ) (at b : ℕ) → at < length l → set l at b ≡ pasted l at (b ∷ [])
unfolding pasted
paste_one [] at b h = absurd (omega arith)
paste_one (x ∷ xs) zero b h = refl
paste_one (x ∷ xs) (suc at) b h = ap (λ (r : List ℕ). x ∷ r) (paste_one xs at b (omega arith))

paste_over : (l : List ℕ) (at : ℕ) (w : List ℕ) → at ≤ length l → take at l ++ (w ++ drop (length w) (drop at l)) ≡ pasted l at w
unfolding pasted
paste_over l zero w h = refl
paste_over [] (suc at) w h = absurd (omega arith)
paste_over (x ∷ l) (suc at) w h = ap (λ (r : List ℕ). x ∷ r) (paste_over l at w (omega arith))

-- None.
paste_none : (l : List ℕ) (at : ℕ) → at ≤ length l → pasted l at [] ≡ l
unfolding pasted
paste_none [] zero h = refl
paste_none [] (suc at) h = refl
paste_none (x ∷ xs) zero h = refl
paste_none (x ∷ xs) (suc at) h = ap (λ (r : List ℕ). x ∷ r) (paste_none xs at (omega arith))

-- What is put behind what was put.
behind : (w v l : List ℕ) → pasted (w ++ drop (length w) l) (length w) v ≡ (w ++ v) ++ drop (length (w ++ v)) l
unfolding pasted
behind [] v l = refl
behind (x ∷ w) v [] =
    let e : pasted (w ++ []) (length w) v ≡ ((w ++ v) ++ []) = rw (drop-nil (length w), drop-nil (length (w ++ v))) at (behind w v []) in
    ap (λ (r : List ℕ). x ∷ r) e
behind (x ∷ w) v (y ∷ l) = ap (λ (r : List ℕ). x ∷ r) (behind w v l)

paste_next : (l : List ℕ) (at : ℕ) (w v : List ℕ) → pasted (pasted l at w) (at + length w) v ≡ pasted l at (w ++ v)
unfolding pasted
paste_next l zero w v = rw (zero-add (length w)) (behind w v l)
paste_next [] (suc at) w v = rw (suc-add at (length w)) refl
paste_next (x ∷ l) (suc at) w v = rw (suc-add at (length w)) (ap (λ (r : List ℕ). x ∷ r) (paste_next l at w v))

-- One byte; a word; none; what two calls put, one behind the other.
pub put_one : (o : List ℕ) (at b : ℕ) → at < length o → Puts o at (b ∷ []) (at + 1) (set o at b)
put_one o at b h = record { place = refl; slice = paste_one o at b h }

pub put_over : {o o' : List ℕ} {at : ℕ} {w : List ℕ} {next : ℕ} → at + length w ≤ length o → next ≡ at + length w
    → o' ≡ take at o ++ (w ++ drop (length w) (drop at o)) → Puts o at w next o'
put_over {o} {o'} {at} {w} h e d = record { place = e; slice = d ∙ paste_over o at w (omega arith) }

pub put_none : (o : List ℕ) (at : ℕ) → at ≤ length o → Puts o at [] at o
put_none o at h = record { place = omega arith; slice = sym (paste_none o at h) }

pub put_then : {o : List ℕ} {at : ℕ} {w v : List ℕ} {r s : ℕ} {o' o'' : List ℕ} → Puts o at w r o' → Puts o' r v s o'' → Puts o at (w ++ v) s o''
put_then {o} {at} {w} {v} p q =
    let e = length-append w v in
    let a = p.place in
    let b = q.place in
    record { place = omega arith; slice = q.slice ∙ rw (p.slice, p.place) (paste_next o at w v) }

pub put_same : {o : List ℕ} {at : ℕ} {w v : List ℕ} {r : ℕ} {o' : List ℕ} → w ≡ v → Puts o at w r o' → Puts o at v r o'
put_same e p = rw (← e) p

-- The digits of a number: none, where none are asked for; of one below 10; of any other.
pub digits_none : (o : List ℕ) (at : ℕ) {most : ℕ} (n : ℕ) → at ≤ length o → most ≡ 0 → Puts o at (decimal_to most n) at o
unfolding decimal_to
digits_none o at n h e = rw e (put_none o at h)

pub digits_last : {o o' : List ℕ} {at most n r : ℕ} → (most ≡ 0 → ⊥) → n < 10 → Puts o at ((48 + n) ∷ []) r o' → Puts o at (decimal_to most n) r o'
unfolding decimal_to
digits_last {most = zero} h l p = absurd (h refl)
digits_last {most = suc k} {n = n} h l p = rw (lt-ltb n 10 l) p

pub digits_more :
    {o o' o'' : List ℕ} {at most n r s : ℕ}
    → (most ≡ 0 → ⊥)
    → 10 ≤ n
    → Puts o at (decimal_to (most - 1) (n / 10)) r o'
    → Puts o' r ((48 + n % 10) ∷ []) s o''
    → Puts o at (decimal_to most n) s o''
unfolding decimal_to
digits_more {most = zero} h l p q = absurd (h refl)
digits_more {most = suc k} {n = n} h l p q =
    let e : suc k - 1 ≡ k = omega arith in
    rw (le-ltb n 10 l) (put_then (put_same (ap (λ (m : ℕ). decimal_to m (n / 10)) e) p) q)

-- A word of two parts behind what was put.
put_more :
    {o : List ℕ} {at : ℕ} {w : List ℕ} (v u : List ℕ) {r s : ℕ} {o' o'' : List ℕ}
    → Puts o at w r o'
    → Puts o' r (v ++ u) s o''
    → Puts o at (w ++ v ++ u) s o''
put_more {w = w} v u p q = put_same (sym (append_assoc w v u)) (put_then p q)

-- The line of a success, part by part.
pub success_line :
    {o o₁ o₂ o₃ o₄ o₅ o₆ : List ℕ} {r₁ r₂ r₃ r₄ r₅ r₆ : ℕ} (read lower : ℕ) (upper : Upper) (flag : Bool) (farthest : ℕ)
    → Puts o 0 (success_word ++ space ++ decimal read) r₁ o₁
    → Puts o₁ r₁ (space ++ decimal lower) r₂ o₂
    → Puts o₂ r₂ (space ++ upper_word upper) r₃ o₃
    → Puts o₃ r₃ (space ++ flag_word flag) r₄ o₄
    → Puts o₄ r₄ (space ++ decimal farthest) r₅ o₅
    → Puts o₅ r₅ break r₆ o₆
    → Puts o 0 (end_bytes (success (0 + read, to lower upper, flag)) farthest) r₆ o₆
success_line read lower upper flag farthest a b c d e f =
    rw (zero-add read)
    (put_then (put_more space (flag_word flag) (put_more space (upper_word upper) (put_more space (decimal lower) a b) c) d)
    (put_same (append_assoc space (decimal farthest) break) (put_then e f)))

-- A lent slice with enough room.
module _ (room : ℕ) (o : List ℕ) where
  pub written_whole :
      {bytes : List ℕ} {r : ℕ} {o' : List ℕ}
      → room ≤ length o
      → Puts o 0 bytes r o'
      → (r ≡ count_in room bytes (length o)) × (o' ≡ slice_in room bytes o)
  unfolding pasted
  written_whole h p = rw (le-ltb (length o) room h) (p.place ∙ zero-add _, p.slice)
