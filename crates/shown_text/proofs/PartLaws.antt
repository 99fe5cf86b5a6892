-- What `shown` answers check by check, and what `text` cuts out.
use Prim.Native.Nat.{ℕ, ◌+◌, ◌-◌, ◌≤◌, ◌<◌}
use mathlib.Core.Path.{◌≡◌, refl, sym, ap, ap₂, subst, ◌∙◌}
use mathlib.Core.Bool.{false}
use mathlib.Core.List.{List}
use native.Mathlib.Omega.{arith}
use borrow.Author.Tests.{lt-ltb, le-ltb}
use lib.ListN.{length, take, drop}
use Rattle.table.specs.Answer.{given}
use Rattle.file_fields.specs.Offsets.{value_at, offset_of}
use Rattle.grammar_file.specs.File.{Contents, fields_of, keywords, rule_list, contents}
use Rattle.grammar_file.specs.File.{file_answer}
use Rattle.report_checks.specs.Report.{fails8}
use Rattle.report_checks.specs.FirstChecks.{first_answer}
use Rattle.columns.specs.declared.Capture.{Capture}
use Rattle.clauses.specs.Limits.{fails11}
use Rattle.capture_checks.specs.Fourteen.{token_offset, token_end, last_token, fails14}
use Rattle.capture_checks.proofs.CaptureLaws.{Right, right_capture, begins_before}
use Rattle.shown_text.specs.declared.ShownPart.{ShownPart}
use Rattle.shown_text.specs.declared.ShownPart.TheVariants.{InReport, InFile}
use Rattle.shown_text.specs.Shown.{in_file, part_shown, shown_answer, shown_bytes, lies_at}
use Rattle.shown_text.proofs.NamePlaces.{readable, name_from, length_from}
use Rattle.shown_text.proofs.ShownLaws.{shown_inside, part_shown_lem}

-- What a file that passes 1 to 5 is read as.
contents_are : (file : List ℕ) (x : Contents) → given x ≡ file_answer file → x ≡ contents (fields_of file)
unfolding file_answer
contents_are file x h = grind arith

-- The counts of a file that is read.
pub rules_are : (file : List ℕ) {read : Contents} → given read ≡ file_answer file → read.rules ≡ length (rule_list (fields_of file))
unfolding contents
rules_are file passes = ap (λ (x : Contents). x.rules) (contents_are file _ passes)

keywords_are : (file : List ℕ) {read : Contents} → given read ≡ file_answer file → read.keywords ≡ length (keywords (fields_of file))
unfolding contents
keywords_are file passes = ap (λ (x : Contents). x.keywords) (contents_are file _ passes)

-- Where none of the checks fails.
module _ (file report words : List ℕ) (c : Capture) {read : Contents} (passes : given read ≡ file_answer file) (p8 : fails8 report ≡ false)
    (p11 : fails11 words ≡ false) (p14 : fails14 read.rules (length report) words c ≡ false) where
  right : Right read.rules (length report) words c
  right = right_capture read.rules (length report) words c p14

  answers : given (part_shown (fields_of file) words c) ≡ shown_answer file report words c
  unfolding shown_answer first_answer
  answers =
      let q : fails14 (length (rule_list (fields_of file))) (length report) words c ≡ false = rw (rules_are file passes) at p14 in
      rw (← passes, p8, p11, q) refl

  pub from_file : c.first ≡ c.after → {r : ShownPart}
      → r ≡ InFile (offset_of file 4 (read.keywords + c.rule) + 5) (length (drop 2 (value_at file (offset_of file 4 (read.keywords + c.rule)))))
      → given (lies_at r) ≡ shown_answer file report words c
  unfolding part_shown
  from_file h d =
      let there : c.rule < length (rule_list (fields_of file)) = subst (λ (n : ℕ). c.rule < n) (rules_are file passes) right.there in
      let fields_read = readable file read passes in
      ap (λ (p : ShownPart). given (lies_at p)) d
      ∙ ap₂ (λ (o n : ℕ). given (in_file o n)) (name_from file fields_read c.rule there read.keywords (keywords_are file passes))
      (length_from file fields_read c.rule there read.keywords (keywords_are file passes))
      ∙ rw (le-ltb c.first c.after (omega arith)) at answers

  module _ (h : c.first ≡ c.after → ⊥) where
    pub reads : c.first < c.after
    reads = omega (arith, right.order)

    pub ordered : token_offset words c.first ≤ token_end words (last_token c)
    ordered = begins_before right reads

    pub from_report : {r : ShownPart} → r ≡ InReport (token_offset words c.first) (token_end words (last_token c) - token_offset words c.first)
        → given (lies_at r) ≡ shown_answer file report words c
    unfolding part_shown
    from_report d = ap (λ (p : ShownPart). given (lies_at p)) d ∙ rw (lt-ltb c.first c.after reads) at answers

all_of : (o n : ℕ) → o + n - o ≡ n
all_of o n = omega arith

-- What is cut out in each case.
module _ (file report words : List ℕ) (c : Capture) {r : ShownPart} (e : given (lies_at r) ≡ shown_answer file report words c) {o n : ℕ} where
  pub report_inside : r ≡ InReport o n → o + n ≤ length report
  report_inside told = shown_inside file report words c (ap (λ (p : ShownPart). given (lies_at p)) (sym told) ∙ e)

  pub report_cut : r ≡ InReport o n → take (o + n - o) (drop o report) ≡ shown_bytes file report words c
  report_cut told =
      ap (λ (k : ℕ). take k (drop o report)) (all_of o n)
      ∙ part_shown_lem file report words c (ap (λ (p : ShownPart). given (lies_at p)) (sym told) ∙ e)

  pub file_inside : r ≡ InFile o n → o + n ≤ length file
  file_inside told = shown_inside file report words c (ap (λ (p : ShownPart). given (lies_at p)) (sym told) ∙ e)

  pub file_cut : r ≡ InFile o n → take (o + n - o) (drop o file) ≡ shown_bytes file report words c
  file_cut told =
      ap (λ (k : ℕ). take k (drop o file)) (all_of o n)
      ∙ part_shown_lem file report words c (ap (λ (p : ShownPart). given (lies_at p)) (sym told) ∙ e)
