-- Beside the rule of 01 nothing but columns has changed, and no token has moved to the right: a scan answers what it did,
-- unless that was 9. A column is at most 8 a byte, as before, and tabs reach that.
use Prim.Native.Nat.{ℕ, zero, suc, ◌+◌, ◌*◌, ◌/◌, ◌≤◌, ◌<◌}
use mathlib.Core.Path.{◌≡◌, refl, sym, ap, ◌∙◌}
use mathlib.Core.Bool.{Bool, true, false, cond, ◌||◌, or-false}
use mathlib.Core.List.{List, [], ◌∷◌, ◌++◌}
use Rattle.std.proofs.Common.{Option}
use mathlib.Core.Logic.{⊎_elim}
use lib.Dec.{leb, ltb, eqb}
use lib.ListN.{length, get_or, drop, replicate, get_or-replicate}
use native.Mathlib.Omega.{arith}
use borrow.Author.Tests.{leb-true, lt-ltb, le-ltb, ltb-false, ne_eqb}
use Rattle.table.specs.Limits.{most_tokens, most_column}
use Rattle.table.specs.Answer.{Answer, given, refused, refused_at, refuse_if, and_then}
use Rattle.table.proofs.Every.{and_left, both_false}
use Rattle.table.proofs.Orders.{le_or_lt}
use Rattle.byte_class.specs.Bytes.{is_continuation, class_of}
use Rattle.byte_class.specs.declared.Class.{Class}
use Rattle.byte_class.specs.declared.Class.TheVariants.{Break, Tab, Blank, Single, Digit, Run, Continuation, Refused}
use Rattle.grammar_file.specs.File.{file_answer}
use Rattle.report_checks.specs.Report.{most_bytes, fails8}
use Rattle.places.specs.Columns.{column_after, column_at}
use Rattle.places.specs.Places.{run_length}
use Rattle.places.specs.declared.Place.{Place}
use Rattle.places.specs.Moves.{position, next_in}
use Rattle.places.specs.declared.Position.{Position}
use Rattle.places.proofs.FindLaws.{column_grows}
use Rattle.scanner.specs.declared.Token.{Token}
use Rattle.scanner.specs.Steps.{last_step_column, step_fails8, standing}
use Rattle.token_words.specs.Places.{mid_run, had_token, line_end, place_by, place_at, places_at, places}
use Rattle.token_words.proofs.PlaceLaws.{onward}
use Rattle.token_words.specs.Scan.{over_column, fails9, fails10, scan_answer}
use Rattle.scanned_columns.proofs.AsciiScans.{old_column_after, old_column_at, old_place_at, old_places_at, old_places, old_scan_answer}
use Rattle.scanned_columns.proofs.AsciiLaws.{column_rule}
use Rattle.scanned_columns.proofs.AsciiLaws.{had_same, refused_same, begun_same}

-- The old rule from a column on, and what a byte from 128 to 191 did.
old_more : (b c d : ℕ) → c ≤ d → old_column_after b c ≤ old_column_after b d
unfolding old_column_after
old_more b c d h = by_tests (eqb b 10) (eqb b 9)
  where
    by_tests : (p q : Bool) → cond p 0 (cond q ((c / 8 + 1) * 8) (c + 1)) ≤ cond p 0 (cond q ((d / 8 + 1) * 8) (d + 1))
    by_tests true q = omega arith
    by_tests false true = omega arith
    by_tests false false = omega arith

old_advances : (b c : ℕ) → is_continuation b ≡ true → old_column_after b c ≡ c + 1
unfolding old_column_after is_continuation
old_advances b c k =
    let low : 128 ≤ b = leb-true 128 b (and_left (leb 128 b) (leb b 191) k) in
    rw (ne_eqb b 10 (omega arith), ne_eqb b 9 (omega arith)) refl

-- No byte moves the column farther than it did.
pub column_nearer : (b c d : ℕ) → c ≤ d → column_after b c ≤ old_column_after b d
column_nearer b c d h = rw (column_rule b c) (by_test (is_continuation b) refl)
  where
    by_test : (k : Bool) → is_continuation b ≡ k → cond k c (old_column_after b c) ≤ old_column_after b d
    by_test true e = omega (arith, old_advances b d e)
    by_test false e = old_more b c d h

pub columns_nearer : (text : List ℕ) (i : ℕ) → column_at text i ≤ old_column_at text i
unfolding column_at old_column_at
columns_nearer text zero = omega arith
columns_nearer text (suc i) = column_nearer (get_or text i 0) (column_at text i) (old_column_at text i) (columns_nearer text i)

-- The same places, but that columns may be lower.
abbrev pub at : Bool → ℕ → ℕ → ℕ → Place
at ends c o n = record { ends = ends; column = c; offset = o; length = n }

pub data Nearer : List Place → List Place → Type 0 where
  none : Nearer [] []
  more : {ends : Bool} {c d o n : ℕ} {ps qs : List Place} → c ≤ d → Nearer ps qs → Nearer (at ends c o n ∷ ps) (at ends d o n ∷ qs)

joined : {ps qs rs ss : List Place} → Nearer ps qs → Nearer rs ss → Nearer (ps ++ rs) (qs ++ ss)
joined none y = y
joined (more h x) y = more h (joined x y)

module _ (c d o : ℕ) (h : c ≤ d) where
  one : (ends : Bool) (n : ℕ) → Nearer (at ends c o n ∷ []) (at ends d o n ∷ [])
  one ends n = more {ends = ends} {o = o} {n = n} h none

  end_nearer : (had : Bool) → Nearer (line_end had c o) (line_end had d o)
  end_nearer true = one true 0
  end_nearer false = none

  place_nearer : (k : Class) (had mid : Bool) (n : ℕ) → Nearer (place_by k had mid c o n) (place_by k had mid d o n)
  place_nearer Break had mid n = end_nearer had
  place_nearer Tab had mid n = none
  place_nearer Blank had mid n = none
  place_nearer Single had mid n = one false 1
  place_nearer Digit had true n = none
  place_nearer Digit had false n = one false n
  place_nearer Run had true n = none
  place_nearer Run had false n = one false n
  place_nearer Continuation had true n = none
  place_nearer Continuation had false n = one false n
  place_nearer Refused had mid n = none

module _ (text : List ℕ) where
  at_nearer : (i : ℕ) → Nearer (place_at text i) (old_place_at text i)
  unfolding place_at old_place_at
  at_nearer i =
      rw (sym (begun_same text i (old_column_at text i)))
      (place_nearer (column_at text i) (old_column_at text i) i (columns_nearer text i) (class_of (get_or text i 0)) (had_token text i) (mid_run text i)
      (run_length (drop i text)))

  all_nearer : (n i : ℕ) → Nearer (places_at text i n) (old_places_at text i n)
  unfolding places_at old_places_at
  all_nearer zero i = none
  all_nearer (suc n) i = joined (at_nearer i) (all_nearer n (suc i))

  pub places_nearer : Nearer (places text) (old_places text)
  unfolding places old_places
  places_nearer =
      joined (all_nearer (length text) 0)
      (rw (sym (had_same text (length text)))
      (end_nearer (column_at text (length text)) (old_column_at text (length text)) (length text) (columns_nearer text (length text)) (had_token text (length text))))

-- As many, and none of them past the last column if none was.
same_count : {ps qs : List Place} → Nearer ps qs → length ps ≡ length qs
same_count none = refl
same_count (more h x) = ap suc (same_count x)

none_over : {ps qs : List Place} → Nearer ps qs → over_column qs ≡ false → over_column ps ≡ false
unfolding over_column
none_over none e = refl
none_over (more {c = c} {d = d} {ps = ps} {qs = qs} h x) e =
    let both = both_false (ltb most_column d) (over_column qs) e in
    rw (le-ltb most_column c (omega (arith, ltb-false most_column d both.0)), none_over x both.1) refl

-- What a scan answered it answers, unless that was 9.
after_file :
    {A : Type 0} (a : Answer A) (x y : Answer ℕ)
    → ((y ≡ refused 9 → ⊥) → x ≡ y)
    → (and_then a y ≡ refused 9 → ⊥)
    → and_then a x ≡ and_then a y
after_file (given v) x y f n = f n
after_file (refused k) x y f n = refl
after_file (refused_at k node) x y f n = refl

pub only_nine :
    (file text : List ℕ) (lent : ℕ)
    → (old_scan_answer file text lent ≡ refused 9 → ⊥)
    → scan_answer file text lent ≡ old_scan_answer file text lent
unfolding scan_answer old_scan_answer fails9 fails10
only_nine file text lent = rw (sym (refused_same text)) (after_file (file_answer file) _ _ (by_8 (fails8 text)))
  where
    x : Nearer (places text) (old_places text)
    x = places_nearer text

    rest : ℕ → Answer ℕ
    rest m = refuse_if (ltb most_tokens m || ltb lent (m * 4)) 10 (given m)

    by_9 :
        (u v : Bool)
        → (v ≡ false → u ≡ false)
        → (refuse_if v 9 (rest (length (old_places text))) ≡ refused 9 → ⊥)
        → refuse_if u 9 (rest (length (places text))) ≡ refuse_if v 9 (rest (length (old_places text)))
    by_9 u true f n = absurd (n refl)
    by_9 u false f n = rw (f refl, same_count x) refl

    by_8 :
        (t : Bool)
        → (refuse_if t 8 (refuse_if (over_column (old_places text)) 9 (rest (length (old_places text)))) ≡ refused 9 → ⊥)
        → refuse_if t 8 (refuse_if (over_column (places text)) 9 (rest (length (places text))))
        ≡ refuse_if t 8 (refuse_if (over_column (old_places text)) 9 (rest (length (old_places text))))
    by_8 true n = refl
    by_8 false n = by_9 (over_column (places text)) (over_column (old_places text)) (none_over x) n

no_answer : (k n : ℕ) → refused k ≡ given n → ⊥
no_answer k n e = absurd (let o : ◌≡◌ {A = ℕ} 0 1 = cc in omega arith)

pub still_scanned : (file text : List ℕ) (lent n : ℕ) → old_scan_answer file text lent ≡ given n → scan_answer file text lent ≡ given n
still_scanned file text lent n e = only_nine file text lent (λ r. no_answer 9 n (sym r ∙ e)) ∙ e

-- A column is at most 8 a byte, and so many tabs reach it.
pub columns_within : (text : List ℕ) (i : ℕ) → column_at text i ≤ 8 * i
unfolding column_at
columns_within text zero = omega arith
columns_within text (suc i) = omega (arith, column_grows (get_or text i 0) (column_at text i), columns_within text i)

pub tabs_reach : (n i : ℕ) → i ≤ n → column_at (replicate n 9) i ≡ 8 * i
unfolding column_at column_after class_of
tabs_reach n zero h = refl
tabs_reach n (suc i) h = rw (get_or-replicate {A = ℕ} n i 9 0 h, tabs_reach n i (omega arith)) (omega arith)

-- Steps from the start of a report stay so: 8 never refuses one for its offset or its column.
abbrev pub Within : List ℕ → Position → Type 0
Within text p = (p.offset ≤ length text) × (p.column ≤ 8 * p.offset)

pub start_within : (text : List ℕ) → Within text (position 0 0 false)
start_within text = (omega arith, omega arith)

pub step_within : (text : List ℕ) (p : Position) → length text ≤ most_bytes → Within text p → Within text (next_in text p).reached
step_within text p h w =
    let on = onward text p (record { within = w.0; fits = omega (arith, w.0, w.1) }) in
    (on.room.within, omega (arith, on.wide, on.room.within, w.0, w.1))

pub stands_within : (text : List ℕ) (p : Position) (a : Answer (Option Token)) → length text ≤ most_bytes → Within text p → Within text (standing a text p)
stands_within text p (given t) h w = step_within text p h w
stands_within text p (refused n) h w = w
stands_within text p (refused_at n node) h w = w

pub none_refused : (text : List ℕ) (p : Position) → Within text p → step_fails8 text p ≡ fails8 text
unfolding step_fails8 fails8
none_refused text p w =
    ⊎_elim
    (λ (h : length text ≤ most_bytes).
    rw (le-ltb (length text) p.offset w.0, le-ltb last_step_column p.column (omega (arith, w.0, w.1)))
    (or-false (fails8 text || false) ∙ or-false (fails8 text)))
    (λ (h : most_bytes < length text). rw (lt-ltb most_bytes (length text) h) refl)
    (le_or_lt (length text) most_bytes)
