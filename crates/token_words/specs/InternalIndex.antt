-- The index of a grammar file's keywords by the keys of their spellings. No public promise rests on this file.
use Rattle.std.specs.Prelude.{ℕ, suc, ◌+◌, ◌≤◌, ◌<◌, ◌≡◌, cond, Option, Some, None, List, [], ◌∷◌, length, get_or, drop, eqb}
use Rattle.file_fields.specs.Offsets.{offset_of, keywords_from}
use Rattle.spellings.specs.Keys.{key_of}
use Rattle.grammar_file.specs.File.{most_keywords}

-- The first of some keywords, numbered from k on, that has a key, if one has it.
unfoldable pub first_of : ℕ → List (List ℕ) → ℕ → Option ℕ
first_of k [] x = None
first_of k (w ∷ keywords) x = cond (eqb (key_of w) x) (Some k) (first_of (suc k) keywords x)

-- The offsets of a file's first keywords.
pub record Starts (file : List ℕ) (count : ℕ) (offsets : List ℕ) : Type 0 where
  pub room : count ≤ length offsets
  pub each : (i : ℕ) → i < count → get_or offsets i 0 ≡ offset_of file 4 i

-- Of the keywords from k on: the first one of each key, and behind each the next one of its key.
pub record Linked (keywords : List (List ℕ)) (k : ℕ) (firsts nexts : List (Option ℕ)) : Type 0 where
  pub keys : length firsts ≡ 4096
  pub room : length keywords ≤ length nexts
  pub first : (x : ℕ) → x < 4096 → get_or firsts x None ≡ first_of k (drop k keywords) x
  pub next :
      (i : ℕ)
      → k ≤ i
      → i < length keywords
      → get_or nexts i None ≡ first_of (i + 1) (drop (i + 1) keywords) (key_of (get_or keywords i []))

-- A whole index of the first keywords of a file.
pub record Indexed (file : List ℕ) (count : ℕ) (offsets : List ℕ) (firsts nexts : List (Option ℕ)) : Type 0 where
  pub few : count ≤ most_keywords
  pub starts : Starts file count offsets
  pub linked : Linked (keywords_from file count) 0 firsts nexts
