-- In a report in UTF-8 a letter is one column, however many bytes it has.
use Prim.Native.Nat.{ℕ, zero, suc, ◌+◌, ◌/◌, ◌%◌, ◌≤◌, ◌<◌}
use mathlib.Core.Path.{◌≡◌, refl, sym, ap, ◌∙◌}
use mathlib.Core.Bool.{Bool, true, false, cond}
use mathlib.Core.List.{List, [], ◌∷◌, ◌++◌}
use lib.Dec.{ltb}
use lib.ListN.{length, get_or, drop, drop_of_length-le, get_or-append}
use native.Mathlib.Nat.{le_of_eq, zero-add}
use native.Mathlib.Numerals.{add-one}
use native.Mathlib.Omega.{arith}
use borrow.Author.Tests.{ltb-true, le-leb, lt-leb, ne_eqb}
use Rattle.byte_class.specs.Bytes.{is_continuation, class_of}
use Rattle.places.specs.Columns.{column_after, column_at, column_over}
use Rattle.places.proofs.FindLaws.{from_one}
use Rattle.scanned_columns.proofs.AsciiScans.{old_column_after}
use Rattle.scanned_columns.proofs.AsciiLaws.{column_rule}
use Rattle.scanned_columns.proofs.Letters.{utf8, bytes_of, Letter, Letters, none, more}

-- A byte that continues a letter, and any other but 9 and 10.
continues_none : (b c : ℕ) → 128 ≤ b → b ≤ 191 → column_after b c ≡ c
unfolding is_continuation
continues_none b c l h = column_rule b c ∙ rw (le-leb 128 b l, le-leb b 191 h) refl

old_one : (b c : ℕ) → (b ≡ 9 → ⊥) → (b ≡ 10 → ⊥) → old_column_after b c ≡ c + 1
unfolding old_column_after
old_one b c t k = rw (ne_eqb b 10 k, ne_eqb b 9 t) refl

below_one : (b c : ℕ) → Letter b → b < 128 → column_after b c ≡ c + 1
unfolding is_continuation
below_one b c k h = column_rule b c ∙ rw (lt-leb 128 b h) (old_one b c k.1 k.2)

lead_one : (b c : ℕ) → 192 ≤ b → column_after b c ≡ c + 1
unfolding is_continuation
lead_one b c h = column_rule b c ∙ rw (le-leb 128 b (omega arith), lt-leb b 191 (omega arith)) (old_one b c (omega arith) (omega arith))

-- The column behind a letter is one more.
pub letter_column : (x c : ℕ) → Letter x → column_over (utf8 x) c ≡ c + 1
unfolding utf8 column_over
letter_column x c k = by_size (ltb x 128) (ltb x 2048) (ltb x 65536) refl
  where
    by_size : (p q r : Bool) → ltb x 128 ≡ p
        → column_over (cond p (x ∷ [])
        (cond q ((192 + x / 64) ∷ (128 + x % 64) ∷ [])
        (cond r ((224 + x / 4096) ∷ (128 + x / 64 % 64) ∷ (128 + x % 64) ∷ [])
        ((240 + x / 262144) ∷ (128 + x / 4096 % 64) ∷ (128 + x / 64 % 64) ∷ (128 + x % 64) ∷ [])))) c
        ≡ c + 1
    by_size true q r e = below_one x c k (ltb-true x 128 e)
    by_size false true r e =
        rw (lead_one (192 + x / 64) c (omega arith), continues_none (128 + x % 64) (c + 1) (omega arith) (omega arith)) refl
    by_size false false true e =
        rw (
          lead_one (224 + x / 4096) c (omega arith),
          continues_none (128 + x / 64 % 64) (c + 1) (omega arith) (omega arith),
          continues_none (128 + x % 64) (c + 1) (omega arith) (omega arith),
        ) refl
    by_size false false false e =
        rw (
          lead_one (240 + x / 262144) c (omega arith),
          continues_none (128 + x / 4096 % 64) (c + 1) (omega arith) (omega arith),
          continues_none (128 + x / 64 % 64) (c + 1) (omega arith) (omega arith),
          continues_none (128 + x % 64) (c + 1) (omega arith) (omega arith),
        ) refl

over_append : (s t : List ℕ) (c : ℕ) → column_over (s ++ t) c ≡ column_over t (column_over s c)
unfolding column_over
over_append [] t c = refl
over_append (b ∷ s) t c = over_append s t (column_after b c)

pub letters_columns : {xs : List ℕ} → Letters xs → (c : ℕ) → column_over (bytes_of xs) c ≡ c + length xs
unfolding bytes_of column_over
letters_columns none c = omega arith
letters_columns (more {x = x} {xs = xs} k ks) c =
    over_append (utf8 x) (bytes_of xs) c
    ∙ ap (column_over (bytes_of xs)) (letter_column x c k)
    ∙ letters_columns ks (c + 1)
    ∙ (let e : c + 1 + length xs ≡ c + suc (length xs) = omega arith in e)

-- The column behind the first bytes of a text.
walked : (s t : List ℕ) (n i : ℕ) → i + n ≡ length s → column_at (s ++ t) (length s) ≡ column_over (drop i s) (column_at (s ++ t) i)
unfolding column_at column_over
walked s t zero i e =
    let k : i ≡ length s = omega arith in
    rw (drop_of_length-le s (le_of_eq (sym k)), k) refl
walked s t (suc n) i e =
    walked s t n (suc i) (omega arith)
    ∙ ap (λ (b : ℕ). column_over (drop (suc i) s) (column_after b (column_at (s ++ t) i))) (get_or-append s t 0 i (omega arith))
    ∙ ap (λ (j : ℕ). column_over (drop j s) (column_after (get_or s i 0) (column_at (s ++ t) i))) (sym (add-one i))
    ∙ sym (ap (λ (l : List ℕ). column_over l (column_at (s ++ t) i)) (from_one s i (omega arith)))

-- What stands behind letters at the start of a text or of a later line stands in the column that they count.
pub line_column : (before after xs : List ℕ) → column_over before 0 ≡ 0 → Letters xs
    → column_at ((before ++ bytes_of xs) ++ after) (length (before ++ bytes_of xs)) ≡ length xs
unfolding column_at
line_column before after xs e ks =
    walked (before ++ bytes_of xs) after (length (before ++ bytes_of xs)) 0 (omega arith)
    ∙ over_append before (bytes_of xs) 0
    ∙ ap (column_over (bytes_of xs)) e
    ∙ letters_columns ks 0
    ∙ zero-add (length xs)

pub first_line_lem : column_over [] 0 ≡ 0
unfolding column_over
first_line_lem = refl

pub later_line : (before : List ℕ) → column_over (before ++ 10 ∷ []) 0 ≡ 0
unfolding column_over column_after class_of
later_line before = over_append before (10 ∷ []) 0
