-- A capture of a scan's tokens always has a text to show: none of its numbers applies.
use Prim.Native.Nat.{ℕ, suc, ◌+◌, ◌-◌, ◌*◌, ◌/◌, ◌≤◌, ◌<◌}
use mathlib.Core.Path.{◌≡◌, refl, sym, ap, ap₂}
use mathlib.Core.Bool.{Bool, true, false, not}
use mathlib.Core.List.{List}
use mathlib.Core.Logic.{⊎_elim}
use native.Mathlib.Omega.{arith}
use native.Mathlib.Numerals.{add-one}
use borrow.Author.Tests.{lt-ltb, le-ltb, le-leb, ltb-false}
use lib.ListN.{length}
use lib.Dec.{leb, ltb}
use Rattle.table.specs.Answer.{given, refuse_if}
use Rattle.table.proofs.Every.{both_false}
use Rattle.table.proofs.Orders.{le_or_lt}
use Rattle.table.proofs.AnswerLaws.{second_given}
use Rattle.grammar_file.specs.File.{Contents, fields_of, keywords, rule_list, file_answer}
use Rattle.report_checks.specs.Report.{fails8}
use Rattle.report_checks.specs.FirstChecks.{first_answer}
use Rattle.columns.specs.declared.Capture.{Capture}
use Rattle.clauses.specs.Limits.{tokens_of, fails11}
use Rattle.token_words.specs.Places.{places}
use Rattle.token_words.specs.Scan.{tokens, words_of, scan_tokens, fails9, fails10, scan_answer}
use Rattle.capture_checks.specs.Fourteen.{token_offset, token_end, last_token, offsets_fall, fails14}
use Rattle.shown_text.specs.Shown.{part_shown, shown_answer}
use Rattle.shown_text.proofs.NamePlaces.{readable}
use Rattle.shown_text.proofs.ShownLaws.{first_given}
use Rattle.shown_scans.proofs.PlacesRise.{places_rise, ends_inside, next_offset}
use Rattle.shown_scans.proofs.ScannedWords.{every_all, words, place, word_of, how_many, passes_11}

-- The words of the tokens at the places of a report.
module _ (ks : List (List ℕ)) (text : List ℕ) (rules : ℕ) (c : Capture) (a : c.rule < rules) (b : c.first ≤ c.after) (d : c.after ≤ length (places text)) where
  W : List ℕ
  W = words ks text (places text)

  offset_is : (w : ℕ) → w < length (places text) → token_offset W w ≡ (place ks text (places text) w).offset
  unfolding W
  offset_is w h = word_of ks text (places text) w 2 h (omega arith)

  end_is : (w : ℕ) → w < length (places text) → token_end W w ≡ (place ks text (places text) w).offset + (place ks text (places text) w).length
  unfolding W
  end_is w h = ap₂ ◌+◌ (offset_is w h) (word_of ks text (places text) w 3 h (omega arith))

  none_falls : offsets_fall W c.first c.after ≡ false
  unfolding offsets_fall
  none_falls =
      ap not
      (every_all (c.after - c.first - 1) (λ i. leb (token_offset W (c.first + i)) (token_offset W (c.first + i + 1)))
      (λ i h.
      let w : ℕ = c.first + i in
      let z : w + 1 ≡ suc w = add-one w in
      let k : suc w < length (places text) = omega arith in
      let next : token_offset W w ≤ token_offset W (w + 1) =
      rw (z, offset_is w (omega arith), offset_is (suc w) k) (next_offset (places_rise text) w _ k) in
      le-leb (token_offset W w) (token_offset W (w + 1)) next))

  ends : c.first < c.after → token_end W (last_token c) ≤ length text
  ends h =
      let k : c.after - 1 < length (places text) = omega arith in
      rw (end_is (c.after - 1) k) (ends_inside (places_rise text) (c.after - 1) _ k)

  passes_14 : fails14 rules (length text) W c ≡ false
  unfolding fails14 W
  passes_14 =
      let n = how_many ks text (places text) in
      rw (lt-ltb c.rule rules a, le-ltb (length W / 4) c.after (omega arith), le-ltb c.after c.first b, none_falls)
      (⊎_elim
      (λ (h : c.after ≤ c.first). rw (le-ltb c.first c.after h) refl)
      (λ (h : c.first < c.after). rw (lt-ltb c.first c.after h) (le-ltb (length text) (token_end W (last_token c)) (ends h)))
      (le_or_lt c.after c.first))

three_pass : (x y z : Bool) (n m : ℕ) → given n ≡ refuse_if x 8 (refuse_if y 9 (refuse_if z 10 (given m))) → (x ≡ false) × (y ≡ false) × (z ≡ false) × (n ≡ m)
three_pass true y z n m e = absurd (let o : ◌≡◌ {A = ℕ} 0 1 = cc in omega arith)
three_pass false true z n m e = absurd (let o : ◌≡◌ {A = ℕ} 0 1 = cc in omega arith)
three_pass false false true n m e = absurd (let o : ◌≡◌ {A = ℕ} 0 1 = cc in omega arith)
three_pass false false false n m e = (refl, refl, refl, cc)

-- Where a scan answers n, no capture of one of the file's rules and of places up to n is refused.
module _ (file report : List ℕ) (lent n : ℕ) (e : given n ≡ scan_answer file report lent) (c : Capture) where
  file_passes : (x : Contents) × (given x ≡ file_answer file)
  unfolding scan_answer
  file_passes = first_given (file_answer file) _ n e

  tests : (fails8 report ≡ false) × (fails9 report ≡ false) × (fails10 report lent ≡ false) × (n ≡ length (places report))
  unfolding scan_answer
  tests = three_pass (fails8 report) (fails9 report) (fails10 report lent) n (length (places report)) (second_given (file_answer file) _ n e)

  many : length (places report) ≤ 4096
  unfolding fails10
  many = ltb-false 4096 (length (places report)) (both_false _ (ltb lent (length (places report) * 4)) tests.2).0

  right_tokens : fails11 (words_of (scan_tokens file report)) ≡ false
  unfolding tokens fails9
  right_tokens = passes_11 (keywords (fields_of file)) report (places report) (readable file file_passes.0 file_passes.1).few many tests.1

  -- The scan's words stand for so many tokens.
  pub scan_count : (tokens_of (words_of (scan_tokens file report))).count ≡ n
  unfolding tokens
  scan_count = let m = how_many (keywords (fields_of file)) report (places report) in omega (arith, tests.3)

  pub always_shown : c.rule < length (rule_list (fields_of file)) → c.first ≤ c.after → c.after ≤ n
      → given (part_shown (fields_of file) (words_of (scan_tokens file report)) c) ≡ shown_answer file report (words_of (scan_tokens file report)) c
  unfolding shown_answer first_answer tokens W
  always_shown a b d =
      let k : fails14 (length (rule_list (fields_of file))) (length report) (words_of (scan_tokens file report)) c ≡ false =
      passes_14 (keywords (fields_of file)) report (length (rule_list (fields_of file))) c a b (omega (arith, tests.3)) in
      sym
      (rw (← file_passes.1, tests.0, right_tokens, k) refl)
