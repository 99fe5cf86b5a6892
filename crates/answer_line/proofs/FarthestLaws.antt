-- The line of the farthest place, part by part.
use Prim.Native.Nat.{ℕ, ◌+◌, ◌*◌, ◌/◌, ◌≤◌, ◌<◌, min}
use mathlib.Core.Path.{◌≡◌, ap, ◌∙◌}
use mathlib.Core.List.{List, ◌++◌, append_assoc}
use lib.ListN.{length, take, get_or}
use borrow.Author.Tests.{lt-ltb, le-ltb}
use Rattle.std.proofs.lemmas.List.{take_min}
use Rattle.answer_line.specs.AnswerLine.{decimal, space, break}
use Rattle.answer_line.specs.EntryLine.{breaks, colon, line_of}
use Rattle.answer_line.specs.FarthestLine.{farthest_word, end_word, place_bytes}
use Rattle.answer_line.specs.InternalPut.{Puts}
use Rattle.answer_line.proofs.PutLaws.{put_then, put_same}

-- The line of an offset, also where it lies behind the last byte.
pub line_within :
    (report words : List ℕ) (w : ℕ) {k line : ℕ}
    → k ≡ min (get_or words (w * 4 + 2) 0) (length report)
    → line ≡ 1 + breaks (take k report)
    → line ≡ line_of report words w
line_within report words w e d =
    d ∙ ap (λ (l : List ℕ). 1 + breaks l) (ap (λ (n : ℕ). take n report) e ∙ take_min (get_or words (w * 4 + 2) 0) report)

-- The line for a place behind the last token, and for one whose token is there.
module _ (report words : List ℕ) (w : ℕ) where
  pub place_end : {o o' : List ℕ} {r : ℕ} → length words / 4 ≤ w → Puts o 0 (farthest_word ++ space ++ end_word ++ break) r o' → Puts o 0 (place_bytes report words w) r o'
  place_end h p = rw (le-ltb w (length words / 4) h) p

  pub place_there :
      {o o₁ o₂ o₃ : List ℕ} {r₁ r₂ r₃ line column : ℕ}
      → w < length words / 4
      → line ≡ line_of report words w
      → column ≡ get_or words (w * 4 + 1) 0
      → Puts o 0 (farthest_word ++ space ++ decimal line) r₁ o₁
      → Puts o₁ r₁ (colon ++ decimal (column + 1)) r₂ o₂
      → Puts o₂ r₂ break r₃ o₃
      → Puts o 0 (place_bytes report words w) r₃ o₃
  place_there {line = line} {column = column} h d e a b c =
      let p : Puts _ 0 (farthest_word ++ space ++ decimal line ++ colon ++ decimal (column + 1) ++ break) _ _ =
      put_same (simp append_assoc) (put_then a (put_then b c)) in
      rw (lt-ltb w (length words / 4) h) (rw (d, e) at p)
