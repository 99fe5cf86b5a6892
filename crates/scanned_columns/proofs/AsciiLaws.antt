-- Where no byte is over 127 a report scans as it did before Note 3 of 02: its columns, places, tokens, steps and answer are
-- those of 01, which `AsciiScans` states. Shared are what a class means (`run_class`, `place_by` and their like) and the terminal
-- of a spelling, which asks a byte's class only whether it is that of digits: by `as_it_was` and `digit_same` each of these
-- gives a byte what it gave it by the classes of 01.
use Prim.Native.Nat.{ℕ, zero, suc, ◌+◌, ◌*◌, ◌/◌, ◌≤◌}
use mathlib.Core.Path.{◌≡◌, refl, sym, ap, ap₂, ◌∙◌}
use mathlib.Core.Bool.{Bool, true, false, cond, not, ◌&&◌, ◌||◌}
use mathlib.Core.List.{List, [], ◌∷◌, ◌++◌, map}
use lib.Dec.{leb, ltb, eqb}
use lib.ListN.{length, get_or, take, drop}
use native.Mathlib.Omega.{arith}
use borrow.Author.Tests.{lt-leb}
use Rattle.table.specs.Every.{every}
use Rattle.byte_class.specs.Bytes.{is_single, is_continuation, class_of}
use Rattle.byte_class.specs.declared.Class.{Class}
use Rattle.byte_class.specs.declared.Class.TheVariants.{Break, Tab, Blank, Single, Digit, Run, Continuation, Refused}
use Rattle.byte_class.proofs.ClassLaws.{continuation_class}
use Rattle.report_checks.specs.Report.{most_bytes, refused_class, fails8}
use Rattle.number_spelling.specs.Number.{digit_class}
use Rattle.places.specs.Columns.{column_by, column_after, column_at, column_over}
use Rattle.places.specs.Places.{run_class, in_run, run_length}
use Rattle.places.specs.Moves.{move_by, next_place, next_in}
use Rattle.places.specs.declared.Position.{Position}
use Rattle.scanner.specs.Tokens.{token_of}
use Rattle.token_words.specs.Places.{mid_run, mark_by, mark_after, had_token, line_end, place_by, place_at, places_at, places}
use Rattle.token_words.specs.Scan.{tokens, fails9, fails10, scan_answer}
use Rattle.scanned_columns.proofs.AsciiScans.{old_class_of, old_column_after, old_column_at, old_column_over, old_in_run, old_run_length, old_mid_run, old_had_token, old_place_at, old_places_at, old_places, old_tokens, old_fails8, old_scan_answer, old_next_place, old_next_in, Ascii}

-- The old rule by the classes of 01.
old_column : (b c : ℕ) → column_by (old_class_of b) c ≡ old_column_after b c
unfolding old_class_of old_column_after
old_column b c = by_tests (eqb b 10) (eqb b 9) (eqb b 13 || eqb b 32) (ltb b 32 || eqb b 127) (is_single b) (leb 48 b && leb b 57)
  where
    by_tests :
        (p q r s t d : Bool)
        → column_by (cond p Break (cond q Tab (cond r Blank (cond s Refused (cond t Single (cond d Digit Run)))))) c
        ≡ cond p 0 (cond q ((c / 8 + 1) * 8) (c + 1))
    by_tests true q r s t d = refl
    by_tests false true r s t d = refl
    by_tests false false true s t d = refl
    by_tests false false false true t d = refl
    by_tests false false false false true d = refl
    by_tests false false false false false true = refl
    by_tests false false false false false false = refl

-- Note 3: "A byte from 128 to 191 no longer advances the column". Every other byte does what it did.
pub class_rule : (b : ℕ) → class_of b ≡ cond (is_continuation b) Continuation (old_class_of b)
unfolding class_of old_class_of
class_rule b = by_test (is_continuation b) refl
  where
    by_test : (k : Bool) → is_continuation b ≡ k → class_of b ≡ cond k Continuation (old_class_of b)
    by_test true e = continuation_class b e
    by_test false e = rw e refl

pub column_rule : (b c : ℕ) → column_after b c ≡ cond (is_continuation b) c (old_column_after b c)
unfolding column_after
column_rule b c = ap (λ (k : Class). column_by k c) (class_rule b) ∙ by_test (is_continuation b)
  where
    by_test : (k : Bool) → column_by (cond k Continuation (old_class_of b)) c ≡ cond k c (old_column_after b c)
    by_test true = refl
    by_test false = old_column b c

-- What is the same of continuation bytes and run bytes is, of every byte, what it was by the classes of 01.
was_run : (b : ℕ) → is_continuation b ≡ true → old_class_of b ≡ Run
unfolding class_of old_class_of
was_run b e =
    by_tests (eqb b 10) (eqb b 9) (eqb b 13 || eqb b 32) (ltb b 32 || eqb b 127) (is_single b) (leb 48 b && leb b 57) (is_continuation b)
    (class_rule b ∙ rw e refl)
  where
    by_tests :
        (p q r s t d k : Bool)
        → cond p Break (cond q Tab (cond r Blank (cond s Refused (cond t Single (cond d Digit (cond k Continuation Run)))))) ≡ Continuation
        → cond p Break (cond q Tab (cond r Blank (cond s Refused (cond t Single (cond d Digit Run))))) ≡ Run
    by_tests true q r s t d k h = absurd (let o : ◌≡◌ {A = ℕ} 0 1 = cc in omega arith)
    by_tests false true r s t d k h = absurd (let o : ◌≡◌ {A = ℕ} 0 1 = cc in omega arith)
    by_tests false false true s t d k h = absurd (let o : ◌≡◌ {A = ℕ} 0 1 = cc in omega arith)
    by_tests false false false true t d k h = absurd (let o : ◌≡◌ {A = ℕ} 0 1 = cc in omega arith)
    by_tests false false false false true d k h = absurd (let o : ◌≡◌ {A = ℕ} 0 1 = cc in omega arith)
    by_tests false false false false false true k h = absurd (let o : ◌≡◌ {A = ℕ} 0 1 = cc in omega arith)
    by_tests false false false false false false k h = refl

pub as_it_was : (b : ℕ) {A : Type 0} (f : Class → A) → f Continuation ≡ f Run → f (class_of b) ≡ f (old_class_of b)
as_it_was b f same = ap f (class_rule b) ∙ by_test (is_continuation b) refl
  where
    by_test : (k : Bool) → is_continuation b ≡ k → f (cond k Continuation (old_class_of b)) ≡ f (old_class_of b)
    by_test true e = same ∙ sym (ap f (was_run b e))
    by_test false e = refl

-- So are digits, and for every text runs, lines that have had a token, 8, and the place that begins at a byte, at whatever
-- column.
pub digit_same : (b : ℕ) → digit_class (class_of b) ≡ digit_class (old_class_of b)
digit_same b = as_it_was b digit_class refl

run_same : (b : ℕ) → in_run b ≡ old_in_run b
unfolding in_run old_in_run
run_same b = as_it_was b run_class refl

length_same : (bytes : List ℕ) → run_length bytes ≡ old_run_length bytes
unfolding run_length old_run_length
length_same [] = refl
length_same (b ∷ bytes) = rw (run_same b, length_same bytes) refl

mid_same : (text : List ℕ) (i : ℕ) → mid_run text i ≡ old_mid_run text i
unfolding mid_run old_mid_run
mid_same text zero = refl
mid_same text (suc i) = run_same (get_or text i 0)

pub had_same : (text : List ℕ) (i : ℕ) → had_token text i ≡ old_had_token text i
unfolding had_token old_had_token mark_after
had_same text zero = refl
had_same text (suc i) =
    ap (mark_after (get_or text i 0)) (had_same text i) ∙ as_it_was (get_or text i 0) (λ k. mark_by k (old_had_token text i)) refl

pub refused_same : (text : List ℕ) → fails8 text ≡ old_fails8 text
unfolding fails8 old_fails8
refused_same text =
    ap
    (λ (f : ℕ → Bool). ltb most_bytes (length text) || not (every (length text) f))
    (λ j i. not (as_it_was (get_or text i 0) refused_class refl j))

pub begun_same :
    (text : List ℕ) (i c : ℕ)
    → place_by (class_of (get_or text i 0)) (had_token text i) (mid_run text i) c i (run_length (drop i text))
    ≡ place_by (old_class_of (get_or text i 0)) (old_had_token text i) (old_mid_run text i) c i (old_run_length (drop i text))
begun_same text i c =
    as_it_was (get_or text i 0) (λ k. place_by k (had_token text i) (mid_run text i) c i (run_length (drop i text))) refl
    ∙ rw (had_same text i, mid_same text i, length_same (drop i text)) refl

-- A byte up to 127.
pub ascii_column : (b c : ℕ) → b ≤ 127 → column_after b c ≡ old_column_after b c
unfolding is_continuation
ascii_column b c h = column_rule b c ∙ rw (lt-leb 128 b (omega arith)) refl

-- The columns of such a text.
module _ (text : List ℕ) (a : Ascii text) where
  pub ascii_columns : (i : ℕ) → i ≤ length text → column_at text i ≡ old_column_at text i
  unfolding column_at old_column_at
  ascii_columns zero h = refl
  ascii_columns (suc i) h =
      ap (column_after (get_or text i 0)) (ascii_columns i (omega arith)) ∙ ascii_column (get_or text i 0) (old_column_at text i) (a i h)

  place_same : (i : ℕ) → i ≤ length text → place_at text i ≡ old_place_at text i
  unfolding place_at old_place_at
  place_same i h =
      ap (λ (c : ℕ). place_by (class_of (get_or text i 0)) (had_token text i) (mid_run text i) c i (run_length (drop i text))) (ascii_columns i h)
      ∙ begun_same text i (old_column_at text i)

  places_same : (n i : ℕ) → i + n ≡ length text → places_at text i n ≡ old_places_at text i n
  unfolding places_at old_places_at
  places_same zero i e = refl
  places_same (suc n) i e = ap₂ ◌++◌ (place_same i (omega arith)) (places_same n (suc i) (omega arith))

  -- Its places and tokens.
  pub ascii_places : places text ≡ old_places text
  unfolding places old_places
  ascii_places =
      ap₂ ◌++◌ (places_same (length text) 0 (omega arith))
      (ap₂ (λ (m : Bool) (c : ℕ). line_end m c (length text)) (had_same text (length text)) (ascii_columns (length text) (omega arith)))

  pub ascii_tokens : (keywords : List (List ℕ)) → tokens keywords text ≡ old_tokens keywords text
  unfolding tokens old_tokens
  ascii_tokens keywords = ap (map (token_of keywords text)) ascii_places

  -- What a scan of it answers.
  pub ascii_scans : (file : List ℕ) (lent : ℕ) → scan_answer file text lent ≡ old_scan_answer file text lent
  unfolding scan_answer old_scan_answer fails9 fails10
  ascii_scans file lent = rw (refused_same text, ascii_places) refl

-- The same for its steps.
tail_ascii : (b : ℕ) (bytes : List ℕ) → Ascii (b ∷ bytes) → Ascii bytes
tail_ascii b bytes a i h = a (suc i) (omega arith)

over_same : (n : ℕ) (bytes : List ℕ) → Ascii bytes → (c : ℕ) → column_over (take n bytes) c ≡ old_column_over (take n bytes) c
unfolding column_over old_column_over
over_same zero bytes a c = refl
over_same (suc n) [] a c = refl
over_same (suc n) (b ∷ bytes) a c =
    ap (column_over (take n bytes)) (ascii_column b c (a 0 (omega arith))) ∙ over_same n bytes (tail_ascii b bytes a) (old_column_after b c)

next_same : (bytes : List ℕ) → Ascii bytes → (o c : ℕ) (m : Bool) → next_place bytes o c m ≡ old_next_place bytes o c m
unfolding next_place old_next_place
next_same [] a o c true = refl
next_same [] a o c false = refl
next_same (b ∷ bytes) a o c m =
    rw (
      ascii_column b c (a 0 (omega arith)),
      over_same (run_length (b ∷ bytes)) (b ∷ bytes) a c,
      length_same (b ∷ bytes),
      next_same bytes (tail_ascii b bytes a) (o + 1) (old_column_after b c) m,
    )
    (as_it_was b
    (λ k.
    move_by k m o c (old_column_after b c) (old_run_length (b ∷ bytes)) (old_column_over (take (old_run_length (b ∷ bytes)) (b ∷ bytes)) c)
    (old_next_place bytes (o + 1) (old_column_after b c) m)) refl)

drop_ascii : (o : ℕ) (text : List ℕ) → Ascii text → Ascii (drop o text)
drop_ascii zero text a = a
drop_ascii (suc o) [] a = a
drop_ascii (suc o) (b ∷ bytes) a = drop_ascii o bytes (tail_ascii b bytes a)

pub ascii_steps : (text : List ℕ) → Ascii text → (p : Position) → next_in text p ≡ old_next_in text p
ascii_steps text a p = next_same (drop p.offset text) (drop_ascii p.offset text a) p.offset p.column p.mark
