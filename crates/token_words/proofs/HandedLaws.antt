-- The tokens handed out one by one from the start are those that a scan writes, wherever the scan is not refused.
use Prim.Native.Nat.{ℕ, zero, suc, ◌+◌, ◌-◌, ◌*◌, ◌≤◌}
use mathlib.Core.Path.{◌≡◌, refl, sym, ap, ap₂, ◌∙◌}
use mathlib.Core.Bool.{Bool, true, false}
use mathlib.Core.List.{List, [], ◌∷◌, map}
use Rattle.std.proofs.Common.{Option, Some, None, option_map}
use lib.ListN.{length}
use lib.Dec.{ltb}
use native.Mathlib.Nat.{le_trans}
use native.Mathlib.Omega.{arith}
use borrow.Author.Tests.{le-ltb}
use Rattle.table.specs.Limits.{most_column}
use Rattle.table.proofs.Every.{both_false}
use Rattle.table.specs.Answer.{Answer, given, refused, refused_at, refuse_if, and_then}
use Rattle.table.proofs.AnswerLaws.{first_refuses, first_names, first_passes}
use Rattle.grammar_file.specs.File.{Contents, keywords, fields_of, file_answer}
use Rattle.places.specs.declared.Place.{Place}
use Rattle.token_words.specs.Places.{places}
use Rattle.scanner.specs.Tokens.{token_of}
use Rattle.scanner.specs.declared.Token.{Token}
use Rattle.token_words.specs.Scan.{tokens, fails8, fails9, fails10, over_column, scan_tokens, scan_answer}
use Rattle.places.specs.Moves.{position, next_in}
use Rattle.places.specs.declared.Position.{Position}
use Rattle.scanner.specs.Steps.{step_fails8, step_fails9, step_answer, standing, hand_on, handed_out}
use Rattle.places.specs.InternalFind.{Room}
use Rattle.token_words.proofs.PlaceLaws.{listed, places_from, onward, places_from_lem}
use Rattle.report_checks.proofs.CheckLaws.{short_report}

-- Number 8 of a step passes.
step_passes8 : (text : List ℕ) (p : Position) → fails8 text ≡ false → p.offset ≤ length text → p.column ≤ 524280 → step_fails8 text p ≡ false
unfolding step_fails8
step_passes8 text p e a b = rw (e, le-ltb (length text) p.offset a, le-ltb 524280 p.column b) refl

-- An unrefused scan has passed each of its checks.
module _ (file text : List ℕ) where
  scan_checks : (a b c : Bool) (n m : ℕ) → refuse_if a 8 (refuse_if b 9 (refuse_if c 10 (given n))) ≡ given m → (a ≡ false) × (b ≡ false)
  scan_checks true b c n m e = absurd (let z : ◌≡◌ {A = ℕ} 0 1 = cc in omega arith)
  scan_checks false true c n m e = absurd (let z : ◌≡◌ {A = ℕ} 0 1 = cc in omega arith)
  scan_checks false false c n m e = (refl, refl)

  -- The file's own checks leave the answer to what follows, or refuse it whatever follows.
  file_first : (a : Answer Contents) → a ≡ file_answer file → (m : ℕ) (next : Answer ℕ) → and_then (file_answer file) next ≡ given m
      → (next ≡ given m) × ((later : Answer (Option Token)) → and_then (file_answer file) later ≡ later)
  file_first (given x) g m next e = (first_passes next g ∙ e, λ later. sym (first_passes later g))
  file_first (refused k) g m next e = absurd (let f = first_refuses next g in let z : ◌≡◌ {A = ℕ} 0 1 = cc in omega arith)
  file_first (refused_at k n) g m next e = absurd (let f = first_names next g in let z : ◌≡◌ {A = ℕ} 0 1 = cc in omega arith)

-- Where a column is not over the last, none of the later ones is.
thin_next : (p : Place) (ps : List Place) → over_column (p ∷ ps) ≡ false → (ltb most_column p.column ≡ false) × (over_column ps ≡ false)
unfolding over_column
thin_next p ps e = both_false (ltb most_column p.column) (over_column ps) e

nothing : (ps : List Place) → length ps ≤ 0 → ps ≡ []
nothing [] h = refl
nothing (p ∷ ps) h = absurd (omega arith)

counted : (a b c : Bool) (n m k : ℕ) → refuse_if a 8 (refuse_if b 9 (refuse_if c 10 (given n))) ≡ given m → m ≤ k → n ≤ k
counted true b c n m k e h = absurd (let z : ◌≡◌ {A = ℕ} 0 1 = cc in omega arith)
counted false true c n m k e h = absurd (let z : ◌≡◌ {A = ℕ} 0 1 = cc in omega arith)
counted false false true n m k e h = absurd (let z : ◌≡◌ {A = ℕ} 0 1 = cc in omega arith)
counted false false false n m k e h = let q : n ≡ m = cc in omega arith

record Standing (text : List ℕ) (p : Position) : Type 0 where
  room : Room text p.offset p.column
  low : p.column + 8 * (length text - p.offset) ≤ 8 * length text
  thin : over_column (places_from text p) ≡ false

module _ (file text : List ℕ) (later : (next : Answer (Option Token)) → and_then (file_answer file) next ≡ next) (pass : fails8 text ≡ false) where
  tok : Place → Token
  tok = token_of (keywords (fields_of file)) text

  step_given : (p : Position) → Standing text p → step_fails9 (next_in text p).found ≡ false → step_answer file text p ≡ given (option_map tok (next_in text p).found)
  unfolding step_answer tok
  step_given p s h =
      let short = short_report text (sym pass) in
      later _
      ∙ ap₂ (λ (a b : Bool). refuse_if a 8 (refuse_if b 9 (given (option_map tok (next_in text p).found))))
      (step_passes8 text p pass s.room.within (omega (arith, s.low, s.room.within))) h

  -- One step more, by what it finds.
  by_found : (n : ℕ) (p : Position) → Standing text p → length (places_from text p) ≤ suc n
      → ((q : Position) → Standing text q → length (places_from text q) ≤ n → handed_out n file text q ≡ map tok (places_from text q))
      → (o : Option Place) → (next_in text p).found ≡ o → handed_out (suc n) file text p ≡ map tok (places_from text p)
  unfolding handed_out step_fails9
  by_found n p s h again None e =
      let on = onward text p s.room in
      let none_left : places_from text p ≡ [] =
      on.list ∙ ap (λ (o : Option Place). listed o (places_from text (next_in text p).reached)) e in
      ap (λ (a : Answer (Option Token)). hand_on a (handed_out n file text (standing a text p)))
      (step_given p s (ap step_fails9 e) ∙ ap (λ (o : Option Place). given (option_map tok o)) e)
      ∙ ap (map tok) (sym none_left)
  by_found n p s h again (Some q) e =
      let on = onward text p s.room in
      let to : Position = (next_in text p).reached in
      let more : places_from text p ≡ q ∷ places_from text to =
      on.list ∙ ap (λ (o : Option Place). listed o (places_from text to)) e in
      let thin = thin_next q (places_from text to) (ap over_column (sym more) ∙ s.thin) in
      let there : Standing text to = record { room = on.room; low = le_trans on.wide s.low; thin = thin.1 } in
      ap (λ (a : Answer (Option Token)). hand_on a (handed_out n file text (standing a text p)))
      (step_given p s (ap step_fails9 e ∙ thin.0) ∙ ap (λ (o : Option Place). given (option_map tok o)) e)
      ∙ ap (λ (l : List Token). tok q ∷ l) (again to there (omega (arith, h, ap length more)))
      ∙ ap (map tok) (sym more)

  -- From a position on, the tokens of the places that are left.
  hands_out : (n : ℕ) (p : Position) → Standing text p → length (places_from text p) ≤ n → handed_out n file text p ≡ map tok (places_from text p)
  unfolding handed_out
  hands_out zero p s h = ap (map tok) (sym (nothing (places_from text p) h))
  hands_out (suc n) p s h = by_found n p s h (λ q t k. hands_out n q t k) (next_in text p).found refl

-- The law: where a scan answers m tokens, m steps or more from the start hand out those that it writes.
pub handed_out_lem :
    (file text : List ℕ) (lent m : ℕ)
    → scan_answer file text lent ≡ given m
    → (n : ℕ)
    → m ≤ n
    → handed_out n file text (position 0 0 false) ≡ scan_tokens file text
unfolding scan_answer fails9 tokens tok
handed_out_lem file text lent m e n h =
    let f =
    file_first file text (file_answer file) refl m
    (refuse_if (fails8 text) 8
    (refuse_if (fails9 text) 9 (refuse_if (fails10 text lent) 10 (given (length (places text)))))) e in
    let k = scan_checks file text (fails8 text) (fails9 text) (fails10 text lent) (length (places text)) m f.0 in
    let few : length (places text) ≤ n =
    counted (fails8 text) (fails9 text) (fails10 text lent) (length (places text)) m n f.0 h in
    let all = places_from_lem text in
    let start : Standing text (position 0 0 false) =
    record {
      room = record { within = omega arith; fits = omega (arith, short_report text (sym k.0)) };
      low = omega arith;
      thin = ap over_column (sym all) ∙ k.1;
    } in
    hands_out file text f.1 k.0 n (position 0 0 false) start (rw (← all) few)
    ∙ ap (map (token_of (keywords (fields_of file)) text)) (sym all)
