-- The words of a scan's tokens: by place, and that number 11 passes them.
use Prim.Native.Nat.{ℕ, zero, suc, ◌+◌, ◌*◌, ◌/◌, ◌%◌, ◌≤◌, ◌<◌}
use mathlib.Core.Path.{◌≡◌, refl, sym, ap, ◌∙◌}
use mathlib.Core.Bool.{Bool, true, false, cond, ◌&&◌}
use mathlib.Core.List.{List, [], ◌∷◌, ◌++◌, map}
use native.Mathlib.Omega.{arith}
use borrow.Author.Tests.{eq-eqb, le-ltb, le-leb, ltb-false}
use lib.ListN.{length, get_or, length-map, get_or-map}
use lib.Dec.{leb, ltb}
use Rattle.table.specs.Every.{every}
use Rattle.table.specs.Words.{each_words}
use Rattle.table.proofs.Every.{both_false}
use Rattle.table.proofs.Words.{length_words}
use Rattle.number_spelling.specs.Number.{is_number}
use Rattle.spellings.specs.Spellings.{same_bytes}
use Rattle.places.specs.declared.Place.{Place}
use Rattle.scanner.specs.declared.Token.{Token}
use Rattle.scanner.specs.Tokens.{token_of, terminal_from, terminal_at}
use Rattle.token_words.specs.Scan.{token_words, words_of, over_column}
use Rattle.clauses.specs.Limits.{tokens_of, fails11}

-- A test that holds of each number holds of every number.
pub every_all : (n : ℕ) (test : ℕ → Bool) → ((i : ℕ) → i < n → test i ≡ true) → every n test ≡ true
unfolding every
every_all zero test h = refl
every_all (suc n) test h = rw (every_all n test (λ i a. h i (omega arith)), h n (omega arith)) refl

-- The word j of the token at a place.
word_at : (ts : List Token) (w j : ℕ) (d : Token) → w < length ts → j < 4 → get_or (words_of ts) (w * 4 + j) 0 ≡ get_or (token_words (get_or ts w d)) j 0
unfolding each_words
word_at [] w j d h k = absurd (omega arith)
word_at (t ∷ ts) zero j d h k = let z : 0 * 4 + j ≡ j = omega arith in rw z (first j k)
  where
    first : (i : ℕ) → i < 4 → get_or (token_words t ++ each_words token_words ts) i 0 ≡ get_or (token_words t) i 0
    first zero k = refl
    first (suc zero) k = refl
    first (suc (suc zero)) k = refl
    first (suc (suc (suc zero))) k = refl
    first (suc (suc (suc (suc i)))) k = absurd (omega arith)
word_at (t ∷ ts) (suc w) j d h k =
    let z : suc w * 4 + j ≡ suc (suc (suc (suc (w * 4 + j)))) = omega arith in
    rw z (word_at ts w j d (omega arith) k)

-- A keyword's terminal is at most two more than there are keywords.
terminal_most : (k : ℕ) (ks : List (List ℕ)) (s : List ℕ) → terminal_from k ks s ≤ 2 + (k + length ks)
unfolding terminal_from
terminal_most k [] s = by_number (is_number s)
  where
    by_number : (b : Bool) → cond b 0 1 ≤ 2 + (k + 0)
    by_number true = omega arith
    by_number false = omega arith
terminal_most k (x ∷ ks) s = by_test (same_bytes x s) (terminal_most (suc k) ks s)
  where
    by_test : (b : Bool) → terminal_from (suc k) ks s ≤ 2 + (suc k + length ks) → cond b (3 + k) (terminal_from (suc k) ks s) ≤ 2 + (k + suc (length ks))
    by_test true h = omega arith
    by_test false h = omega arith

-- A place that is not past the last column.
column_within : (ps : List Place) → over_column ps ≡ false → (w : ℕ) (d : Place) → w < length ps → (get_or ps w d).column ≤ 65535
unfolding over_column
column_within [] e w d h = absurd (omega arith)
column_within (p ∷ ps) e zero d h = ltb-false 65535 p.column (both_false (ltb 65535 p.column) (over_column ps) e).0
column_within (p ∷ ps) e (suc w) d h = column_within ps (both_false (ltb 65535 p.column) (over_column ps) e).1 w d (omega arith)

-- What stands past the last place.
abbrev nowhere : Place
nowhere = record { ends = false; column = 0; offset = 0; length = 0 }

-- The words of the tokens at some places.
module _ (ks : List (List ℕ)) (text : List ℕ) (ps : List Place) where
  abbrev pub words : List ℕ
  words = words_of (map (token_of ks text) ps)

  abbrev pub place : ℕ → Place
  place w = get_or ps w nowhere

  pub word_of : (w j : ℕ) → w < length ps → j < 4 → get_or words (w * 4 + j) 0 ≡ get_or (token_words (token_of ks text (place w))) j 0
  word_of w j h k =
      word_at (map (token_of ks text) ps) w j (token_of ks text nowhere)
      (rw (length-map ps (token_of ks text)) h) k
      ∙ ap (λ (t : Token). get_or (token_words t) j 0) (get_or-map (token_of ks text) ps w nowhere)

  pub how_many : length words ≡ length ps * 4
  how_many = length_words token_words (λ t. refl) (map (token_of ks text) ps) ∙ ap (λ (n : ℕ). n * 4) (length-map ps (token_of ks text))

  terminal_within : length ks ≤ 253 → (p : Place) → (token_of ks text p).terminal ≤ 255
  unfolding terminal_at
  terminal_within h p = by_end p.ends (terminal_most 0 ks _)
    where
      by_end : (b : Bool) {n : ℕ} → n ≤ 2 + (0 + length ks) → cond b 2 n ≤ 255
      by_end true k = omega arith
      by_end false k = omega arith

  -- 11 passes them.
  pub passes_11 : length ks ≤ 253 → length ps ≤ 4096 → over_column ps ≡ false → fails11 words ≡ false
  unfolding fails11
  passes_11 few many wide =
      let n = how_many in
      let whole : length words % 4 ≡ 0 = omega arith in
      let count : length words / 4 ≡ length ps = omega arith in
      let tests : every (length words / 4) (λ w. leb ((tokens_of words).terminal w) 255 && leb ((tokens_of words).column w) 65535) ≡ true =
      every_all (length words / 4) (λ w. leb ((tokens_of words).terminal w) 255 && leb ((tokens_of words).column w) 65535) right in
      rw (eq-eqb (length words % 4) 0 whole, le-ltb 4096 (length words / 4) (omega arith), tests) refl
    where
      right : (w : ℕ) → w < length words / 4 → (leb (get_or words (w * 4) 0) 255 && leb (get_or words (w * 4 + 1) 0) 65535) ≡ true
      right w h =
          let n = how_many in
          let there : w < length ps = omega arith in
          let z : w * 4 + 0 ≡ w * 4 = omega arith in
          let t : get_or words (w * 4) 0 ≡ (token_of ks text (place w)).terminal = ap (λ (i : ℕ). get_or words i 0) (sym z) ∙ word_of w 0 there (omega arith) in
          let c : get_or words (w * 4 + 1) 0 ≡ (place w).column = word_of w 1 there (omega arith) in
          rw (
            t,
            c,
            le-leb (token_of ks text (place w)).terminal 255 (terminal_within few (place w)),
            le-leb (place w).column 65535 (column_within ps wide w _ there),
          ) refl
