-- The keywords of a file one by one, and which of them decides the terminal of a spelling.
use Prim.Native.Nat.{ℕ, ◌+◌, ◌≤◌, ◌<◌}
use mathlib.Core.Path.{◌≡◌, refl, ◌∙◌}
use mathlib.Core.Bool.{Bool, cond}
use mathlib.Core.List.{List, []}
use native.Mathlib.Numerals.{add-one}
use lib.ListN.{length, get_or, drop, length-map, drop_of_length-le}
use lib.Seq.{drop-cons}
use Rattle.spellings.specs.Spellings.{same_bytes}
use Rattle.file_fields.specs.Offsets.{value_at, offset_of, fields_from, keywords_from}
use Rattle.file_fields.proofs.Offsets.{length_from, map_at}
use Rattle.number_spelling.specs.Number.{is_number}
use Rattle.scanner.specs.Tokens.{terminal_from}

pub length_keywords : (file : List ℕ) (count : ℕ) → length (keywords_from file count) ≡ count
unfolding keywords_from
length_keywords file count = length-map (fields_from file 4 count) _ ∙ length_from file 4 count

pub keyword_at : (file : List ℕ) (count k : ℕ) → k < count → get_or (keywords_from file count) k [] ≡ value_at file (offset_of file 4 k)
unfolding keywords_from
keyword_at file count k h = map_at (λ f. f.value) file 4 count k [] h

module _ (keywords : List (List ℕ)) (k : ℕ) (s : List ℕ) where
  -- Keyword k decides, or those behind it.
  pub decides : k < length keywords → terminal_from k (drop k keywords) s ≡ cond (same_bytes (get_or keywords k []) s) (3 + k) (terminal_from (k + 1) (drop (k + 1) keywords) s)
  unfolding terminal_from
  decides h = rw (add-one, drop-cons keywords k [] h) refl

  -- Behind the last keyword.
  pub ended : length keywords ≤ k → terminal_from k (drop k keywords) s ≡ cond (is_number s) 0 1
  unfolding terminal_from
  ended h = rw (drop_of_length-le keywords {i = k} h) refl

-- The same by the offset of keyword k in a file.
pub step :
    (file : List ℕ) (count k : ℕ) (s : List ℕ) {at : ℕ} {v : List ℕ} {same : Bool}
    → at ≡ offset_of file 4 k
    → k < count
    → v ≡ value_at file at
    → same ≡ same_bytes v s
    → terminal_from k (drop k (keywords_from file count)) s
    ≡ cond same (3 + k) (terminal_from (k + 1) (drop (k + 1) (keywords_from file count)) s)
step file count k s a h e t = decides (keywords_from file count) k s (rw length_keywords h) ∙ rw (keyword_at file count k h, ← a, ← e, ← t) refl
