-- The parts of an entry's line: the bytes before the first break, and the two lines.
use Rattle.std.proofs.Common.{ℕ, ◌≤◌, ◌≡◌, refl, sym, ap, List, ◌++◌, length, take, Bool, true, false, cond, nat_lt, Some, None, arith, append_assoc}
use Rattle.std.specs.Prelude.{position}
use Rattle.std.specs.List.{position_or_len, before_first}
use Rattle.std.proofs.Math.Seq.{take_all}
use Rattle.answer_line.specs.AnswerLine.{decimal, space, break}
use Rattle.answer_line.specs.EntryLine.{colon, dash, read_bytes, unread_bytes}
use Rattle.answer_line.specs.InternalPut.{Puts}
use Rattle.answer_line.proofs.PutLaws.{put_then, put_same}

-- What stands before the first element that passes a test, by its place.
some_is : (b : Bool) (n i : ℕ) → Some i ≡ cond b (Some n) None → i ≡ n
some_is true n i e = cc
some_is false n i e = cc

none_past : (b : Bool) (n m : ℕ) → nat_lt n m ≡ b → None ≡ cond b (Some n) None → m ≤ n
none_past true n m d e = cc
none_past false n m d e = grind arith

pub first_some : (p : ℕ → Bool) (xs : List ℕ) (i : ℕ) → Some i ≡ position p xs → take i xs ≡ before_first p xs
first_some p xs i e = ap (λ k. take k xs) (some_is _ (position_or_len p xs) i e)

pub first_none : (p : ℕ → Bool) (xs : List ℕ) → None ≡ position p xs → xs ≡ before_first p xs
first_none p xs e =
    let past = none_past _ (position_or_len p xs) (length xs) refl e in
    sym (take_all (position_or_len p xs) xs past)

-- The two lines, part by part.
pub read_line :
    {o o₁ o₂ o₃ o₄ o₅ o₆ : List ℕ} {r₁ r₂ r₃ r₄ r₅ r₆ : ℕ} (name : List ℕ) (line column : ℕ) (text : List ℕ)
    → Puts o 0 name r₁ o₁
    → Puts o₁ r₁ (space ++ decimal line) r₂ o₂
    → Puts o₂ r₂ (colon ++ decimal column) r₃ o₃
    → Puts o₃ r₃ space r₄ o₄
    → Puts o₄ r₄ text r₅ o₅
    → Puts o₅ r₅ break r₆ o₆
    → Puts o 0 (read_bytes name line column text) r₆ o₆
read_line name line column text a b c d e f =
    put_same (simp append_assoc) (put_then a (put_then b (put_then c (put_then d (put_then e f)))))

pub unread_line :
    {o o₁ o₂ : List ℕ} {r₁ r₂ : ℕ} (name : List ℕ)
    → Puts o 0 name r₁ o₁
    → Puts o₁ r₁ (space ++ dash ++ break) r₂ o₂
    → Puts o 0 (unread_bytes name) r₂ o₂
unread_line name a b = put_same (simp append_assoc) (put_then a b)
