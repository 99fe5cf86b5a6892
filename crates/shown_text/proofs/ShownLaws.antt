-- What a shown text is: where its part lies, and what its bytes are.
use Prim.Native.Nat.{ℕ, ◌+◌, ◌-◌, ◌≤◌, ◌<◌}
use mathlib.Core.Path.{◌≡◌, refl, sym, ap, subst, ◌∙◌}
use mathlib.Core.Bool.{Bool, true, false, cond}
use mathlib.Core.List.{List, []}
use mathlib.Core.Logic.{⊎_elim}
use native.Mathlib.Omega.{arith}
use borrow.Author.Tests.{lt-ltb, le-ltb}
use lib.ListN.{length, get_or, take, drop}
use Rattle.table.specs.Answer.{Answer, given, refused, refused_at, refuse_if, and_then}
use Rattle.table.specs.Refusals.{turned_down}
use Rattle.table.specs.declared.refusals.Refusal.{Refusal}
use Rattle.table.proofs.Orders.{le_or_lt}
use Rattle.table.proofs.AnswerLaws.{second_given}
use Rattle.grammar_file.specs.File.{Contents, fields_of, rule_list, rule_names, part_of, file_answer, name_bytes}
use Rattle.report_checks.specs.Report.{fails8}
use Rattle.report_checks.specs.FirstChecks.{first_answer}
use Rattle.columns.specs.declared.Capture.{Capture}
use Rattle.clauses.specs.Limits.{fails11}
use Rattle.capture_checks.specs.Fourteen.{token_offset, token_end, reads_tokens, last_token, fails14}
use Rattle.capture_checks.proofs.CaptureLaws.{Right, right_capture, begins_before}
use Rattle.shown_text.specs.Shown.{Part, in_report, in_file, name_offset, part_shown, shown_answer, unless_refused, shown_bytes}
use Rattle.shown_text.proofs.NamePlaces.{Readable, readable, name_bytes_lem, name_within}

-- The bytes of a part.
abbrev pub cut : List ℕ → List ℕ → Part → List ℕ
cut file report (in_report offset n) = take n (drop offset report)
cut file report (in_file offset n) = take n (drop offset file)

-- A part lies inside its slice.
abbrev pub Inside : List ℕ → List ℕ → Part → Type 0
Inside file report (in_report offset n) = offset + n ≤ length report
Inside file report (in_file offset n) = offset + n ≤ length file

-- The first part passes where the two together do.
pub first_given : {A B : Type 0} (first : Answer B) (next : Answer A) (x : A) → given x ≡ and_then first next → (b : B) × (given b ≡ first)
first_given (given b) next x e = (b, refl)
first_given (refused n) next x e = absurd (let z : ◌≡◌ {A = ℕ} 0 1 = cc in omega arith)
first_given (refused_at n node) next x e = absurd (let z : ◌≡◌ {A = ℕ} 0 1 = cc in omega arith)

two_tests : (a b : Bool) (n m : ℕ) (x y : Part) → given x ≡ refuse_if a n (refuse_if b m (given y)) → (b ≡ false) × (x ≡ y)
two_tests true b n m x y e = absurd (let z : ◌≡◌ {A = ℕ} 0 1 = cc in omega arith)
two_tests false true n m x y e = absurd (let z : ◌≡◌ {A = ℕ} 0 1 = cc in omega arith)
two_tests false false n m x y e = (refl, cc)

-- Where a part is answered.
module _ (file report words : List ℕ) (c : Capture) {p : Part} (e : given p ≡ shown_answer file report words c) where
  checks : (u : Unit) × (given u ≡ first_answer file report)
  unfolding shown_answer
  checks = first_given (first_answer file report) _ p e

  file_passes : (x : Contents) × (given x ≡ file_answer file)
  unfolding first_answer
  file_passes = first_given (file_answer file) (refuse_if (fails8 report) 8 (given tt)) checks.0 checks.1

  tests : (fails14 (length (rule_list (fields_of file))) (length report) words c ≡ false) × (p ≡ part_shown (fields_of file) words c)
  unfolding shown_answer
  tests =
      two_tests (fails11 words) (fails14 (length (rule_list (fields_of file))) (length report) words c) 11 14 p
      (part_shown (fields_of file) words c) (second_given (first_answer file report) _ p e)

  right : Right (length (rule_list (fields_of file))) (length report) words c
  right = right_capture (length (rule_list (fields_of file))) (length report) words c tests.0

  read : Readable file
  read = readable file file_passes.0 file_passes.1

  -- The part by whether the capture read tokens.
  with_tokens : c.first < c.after → p ≡ in_report (token_offset words c.first) (token_end words (last_token c) - token_offset words c.first)
  unfolding part_shown
  with_tokens h = tests.1 ∙ rw (lt-ltb c.first c.after h) refl

  without_tokens : c.after ≤ c.first → p ≡ in_file (name_offset (fields_of file) c.rule) (length (get_or (rule_names (fields_of file)) c.rule []))
  unfolding part_shown
  without_tokens h = tests.1 ∙ rw (le-ltb c.first c.after h) refl

  -- The part lies inside its slice.
  pub shown_inside : Inside file report p
  shown_inside =
      ⊎_elim
      (λ (h : c.after ≤ c.first). subst (Inside file report) (sym (without_tokens h)) (name_within file read c.rule right.there))
      (λ (h : c.first < c.after).
      let a = begins_before right h in
      let b = right.inside h in
      subst (Inside file report) (sym (with_tokens h)) (omega arith))
      (le_or_lt c.after c.first)

  bytes_are : {l : List ℕ} → l ≡ cond (reads_tokens c)
      (take (token_end words (last_token c) - token_offset words c.first) (drop (token_offset words c.first) report)) (name_bytes file c.rule)
      → l ≡ shown_bytes file report words c
  unfolding shown_bytes
  bytes_are {l} d =
      d ∙ ap (λ (a : Answer Part). unless_refused a (cond (reads_tokens c)
      (take (token_end words (last_token c) - token_offset words c.first) (drop (token_offset words c.first) report)) (name_bytes file c.rule))) e

  name_shown : get_or (rule_names (fields_of file)) c.rule [] ≡ name_bytes file c.rule
  unfolding name_bytes
  name_shown = ap (λ (a : Answer Contents). part_of a (get_or (rule_names (fields_of file)) c.rule [])) file_passes.1

  -- Its bytes are those that are shown: of a capture without tokens, the rule's name.
  pub part_shown_lem : cut file report p ≡ shown_bytes file report words c
  part_shown_lem =
      ⊎_elim
      (λ (h : c.after ≤ c.first).
      bytes_are
      (ap (cut file report) (without_tokens h) ∙ name_bytes_lem file read c.rule right.there ∙ name_shown ∙ rw (le-ltb c.first c.after h) refl))
      (λ (h : c.first < c.after). bytes_are (ap (cut file report) (with_tokens h) ∙ rw (lt-ltb c.first c.after h) refl))
      (le_or_lt c.after c.first)

-- Where a number refuses, no bytes are shown.
pub none_shown : (file report words : List ℕ) (c : Capture) {n : ℕ} → refused n ≡ shown_answer file report words c → [] ≡ shown_bytes file report words c
unfolding shown_bytes
none_shown file report words c e =
    ap (λ (a : Answer Part). unless_refused a (cond (reads_tokens c)
    (take (token_end words (last_token c) - token_offset words c.first) (drop (token_offset words c.first) report)) (name_bytes file c.rule))) e

-- Where the call is turned down, no bytes are shown.
none_down : (r : Refusal) (l : List ℕ) → [] ≡ unless_refused (turned_down r) l
none_down r l = grind arith

pub none_turned_down : (file report words : List ℕ) (c : Capture) (r : Refusal) → turned_down r ≡ shown_answer file report words c → [] ≡ shown_bytes file report words c
unfolding shown_bytes
none_turned_down file report words c r e = rw (← e) (none_down r _)
