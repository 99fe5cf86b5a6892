-- The cases of `AlikeCases`: the splicer's grammar reads alike, so whatever the report both readings answer the same; the three
-- others do not, and there the readings differ.
use Prim.Native.Nat.{ℕ}
use mathlib.Core.Path.{◌≡◌, refl}
use mathlib.Core.Bool.{Bool, true, false, true≢false}
use mathlib.Core.List.{List, [], ◌∷◌}
use Rattle.table.specs.Words.{each_words}
use Rattle.table.specs.Every.{every}
use Rattle.table.specs.Form.{Form, terminal, rule, sequence, repeat, indent, align, form, stands_for}
use Rattle.table.specs.Checks.{table_answer, fails3, fails4, fails5, right_words}
use Rattle.columns.specs.Relations.{greater, any}
use Rattle.columns.specs.Intervals.{to}
use Rattle.columns.specs.declared.Upper.TheVariants.{At, Endless}
use Rattle.columns.specs.declared.Interval.{Interval}
use Rattle.columns.specs.declared.Reading.{Reading}
use Rattle.columns.specs.declared.Reading.TheVariants.{By2017, By2014}
use Rattle.well_formed.specs.Facts.{nothing, May, empty_nothing, rule_child, sequence_nothing}
use Rattle.well_formed.specs.Rounds.{gives, known_after, passes, well_after}
use Rattle.well_formed.specs.Check.{may_nothing, is_well, verdict_from, check_answer}
use Rattle.clauses.specs.Limits.{fails11, fails12, fails16}
use Rattle.clauses.specs.Evaluation.{evaluate, outcome_for, trace_for}
use Rattle.clauses.specs.RunAnswer.{run_answer}
use Rattle.clauses.specs.ListAnswer.{list_answer, list_after}
use Rattle.clauses.specs.Cases as cases
use Rattle.both_readings.specs.BothReadings.{ReadAlike, begins, align_child, not_child, sequence_first}
use Rattle.both_readings.specs.AlikeCases.{start_at, fibre_nodes, fibre_rules, fibre_report, aligned_indent, aligned_in_not}
use Rattle.both_readings.specs.AlikeCases.{aligned_empty, answer_at}
use Rattle.both_readings.proofs.ClosedForms.{Closed}
use Rattle.both_readings.proofs.HeldForms.{alike_held}
use Rattle.both_readings.proofs.SameAnswers.{same_answer}
use Rattle.both_readings.proofs.SameListings.{same_listing, same_words}

-- The forms of the splicer's grammar that a report enters, with their flags.
data FibreHeld : Form → Bool → Type 0 where
  report : FibreHeld (repeat 1) false
  aligned_fibre : FibreHeld (align 0) false
  rule_fibre : FibreHeld (rule 1) true
  fibre : FibreHeld (sequence 3 13) true
  word_fibre : FibreHeld (terminal 3) true
  fibre_rest : FibreHeld (sequence 8 12) false
  rest_of_line : FibreHeld (sequence 6 7) false
  any_number : FibreHeld (indent 4 any) false
  number : FibreHeld (terminal 0) false
  any_line_end : FibreHeld (indent 5 any) false
  line_end : FibreHeld (terminal 2) false
  inside : FibreHeld (indent 11 greater) false
  entries : FibreHeld (repeat 10) false
  aligned_entry : FibreHeld (align 9) false
  rule_entry : FibreHeld (rule 2) true
  entry : FibreHeld (sequence 15 8) true
  word_loss : FibreHeld (terminal 4) true

-- A terminal reads a token, so a sequence that begins with one does, and a rule for such a sequence.
terminal_reads : (nodes rules : List ℕ) {a : ℕ} → May nodes rules (terminal a) nothing → ⊥
terminal_reads nodes rules m = elim m [ ]

first_unread : (nodes rules : List ℕ) {p q : ℕ} → May nodes rules (sequence p q) nothing → May nodes rules (form nodes p) nothing
first_unread nodes rules (sequence_nothing m n) = m

rule_unread : (nodes rules : List ℕ) {x : ℕ} → May nodes rules (rule x) nothing → May nodes rules (form nodes (stands_for rules x)) nothing
rule_unread nodes rules (rule_child m) = m

-- With each of these forms, what is entered from it.
held_rule : {x : ℕ} {b : Bool} → FibreHeld (rule x) b → FibreHeld (form fibre_nodes (stands_for fibre_rules x)) b
unfolding form each_words fibre_nodes fibre_rules
held_rule rule_fibre = fibre
held_rule rule_entry = entry

held_first : {p q : ℕ} {b : Bool} → FibreHeld (sequence p q) b → FibreHeld (form fibre_nodes p) b
unfolding form each_words fibre_nodes
held_first fibre = word_fibre
held_first fibre_rest = rest_of_line
held_first rest_of_line = any_number
held_first entry = word_loss

held_unread : {p q : ℕ} {b : Bool} → FibreHeld (sequence p q) b → May fibre_nodes fibre_rules (form fibre_nodes p) nothing → FibreHeld (form fibre_nodes q) b
unfolding form each_words fibre_nodes
held_unread fibre m = absurd (terminal_reads fibre_nodes fibre_rules m)
held_unread fibre_rest m = inside
held_unread rest_of_line m = any_line_end
held_unread entry m = absurd (terminal_reads fibre_nodes fibre_rules m)

held_read : {p q : ℕ} {b : Bool} → FibreHeld (sequence p q) b → FibreHeld (form fibre_nodes q) false
unfolding form each_words fibre_nodes
held_read fibre = fibre_rest
held_read fibre_rest = inside
held_read rest_of_line = any_line_end
held_read entry = rest_of_line

held_round : {p : ℕ} {b : Bool} → FibreHeld (repeat p) b → FibreHeld (form fibre_nodes p) b
unfolding form each_words fibre_nodes
held_round report = aligned_fibre
held_round entries = aligned_entry

held_again : {p : ℕ} {b : Bool} → FibreHeld (repeat p) b → FibreHeld (repeat p) false
held_again report = report
held_again entries = entries

held_indent : {p ρ : ℕ} {b : Bool} → FibreHeld (indent p ρ) b → FibreHeld (form fibre_nodes p) b
unfolding form each_words fibre_nodes
held_indent any_number = number
held_indent any_line_end = line_end
held_indent inside = entries

held_align : {p : ℕ} {b : Bool} → FibreHeld (align p) b → FibreHeld (form fibre_nodes p) true
unfolding form each_words fibre_nodes
held_align aligned_fibre = rule_fibre
held_align aligned_entry = rule_entry

fibre_closed : Closed fibre_nodes fibre_rules FibreHeld
fibre_closed =
    record {
      in_rule = λ x b h. held_rule h;
      in_first = λ p q b h. held_first h;
      in_unread = λ p q b h m. held_unread h m;
      in_read = λ p q b h m. held_read h;
      in_choice = λ p q b h. elim h [ ];
      in_second = λ p q b h m. elim h [ ];
      in_not = λ p b h. elim h [ ];
      in_round = λ p b h. held_round h;
      in_again = λ p b h m. held_again h;
      in_indent = λ p ρ b h. held_indent h;
      in_position = λ p σ b h. elim h [ ];
      in_align = λ p b h. held_align h;
    }

-- A fibre or an entry begins with its word.
fibre_reads : {p : ℕ} → FibreHeld (align p) false → May fibre_nodes fibre_rules (form fibre_nodes p) nothing → ⊥
unfolding form each_words fibre_nodes fibre_rules
fibre_reads aligned_fibre m = terminal_reads fibre_nodes fibre_rules (first_unread fibre_nodes fibre_rules (rule_unread fibre_nodes fibre_rules m))
fibre_reads aligned_entry m = terminal_reads fibre_nodes fibre_rules (first_unread fibre_nodes fibre_rules (rule_unread fibre_nodes fibre_rules m))

-- Under an indent the flag is clear.
indent_clear : {p ρ : ℕ} {b : Bool} → FibreHeld (indent p ρ) b → b ≡ false
indent_clear any_number = refl
indent_clear any_line_end = refl
indent_clear inside = refl

-- The splicer's grammar reads alike.
pub fibre_alike : ReadAlike fibre_nodes fibre_rules (form fibre_nodes 2) false
unfolding form each_words fibre_nodes
fibre_alike = alike_held fibre_nodes fibre_rules FibreHeld fibre_closed report (λ p ρ h. absurd (true≢false (indent_clear h))) (λ p h m. fibre_reads h m)

-- 16 does not apply: it has no position.
no_positions : (place : ℕ) (interval : Interval) → fails16 By2014 fibre_nodes (start_at 2 place interval) ≡ false
unfolding fails16 every each_words fibre_nodes
no_positions place interval = refl

-- Whatever the report and the start's place and columns, both readings answer the same,
pub fibre_answers :
    (words : List ℕ) (place : ℕ) (interval : Interval)
    → run_answer By2014 fibre_nodes fibre_rules words (start_at 2 place interval) ≡ run_answer By2017 fibre_nodes fibre_rules words (start_at 2 place interval)
fibre_answers words place interval = same_answer fibre_nodes fibre_rules words (start_at 2 place interval) fibre_alike (no_positions place interval)

-- and where they list their captures,
pub fibre_listings :
    (words : List ℕ) (place : ℕ) (interval : Interval) (lent : ℕ)
    → list_answer By2014 fibre_nodes fibre_rules words (start_at 2 place interval) lent ≡ list_answer By2017 fibre_nodes fibre_rules words (start_at 2 place interval) lent
fibre_listings words place interval lent = same_listing fibre_nodes fibre_rules words (start_at 2 place interval) fibre_alike (no_positions place interval) lent

-- and leave the same words.
pub fibre_words :
    (words : List ℕ) (place : ℕ) (interval : Interval) (before : List ℕ)
    → list_after By2014 fibre_nodes fibre_rules words (start_at 2 place interval) before ≡ list_after By2017 fibre_nodes fibre_rules words (start_at 2 place interval) before
fibre_words words place interval before = same_words fibre_nodes fibre_rules words (start_at 2 place interval) fibre_alike (no_positions place interval) before

-- The report of the case is read whole, by either reading.
pub fibre_read : (reading : Reading) → run_answer reading fibre_nodes fibre_rules fibre_report (start_at 2 0 (to 0 Endless)) ≡ cases.reads 6 0 (At 0) false 6
unfolding fibre_nodes fibre_rules fibre_report each_words form evaluate outcome_for trace_for run_answer fails11 fails12 fails16 every fails3
    fails4 fails5 right_words table_answer gives known_after passes well_after may_nothing is_well verdict_from check_answer
fibre_read By2017 = refl
fibre_read By2014 = refl

-- An align over an indent does not read alike,
pub aligned_indent_lem : ReadAlike aligned_indent [] (form aligned_indent 2) false → ⊥
unfolding form each_words aligned_indent
aligned_indent_lem alike = alike.indents 0 greater (align_child begins)

-- nor does a not over it,
pub aligned_in_not_lem : ReadAlike aligned_in_not [] (form aligned_in_not 3) false → ⊥
unfolding form each_words aligned_in_not
aligned_in_not_lem alike = alike.indents 0 greater (align_child (not_child begins))

-- nor does an align over empty before an indent.
pub aligned_empty_lem : ReadAlike aligned_empty [] (form aligned_empty 4) false → ⊥
unfolding form each_words aligned_empty
aligned_empty_lem alike = alike.aligns 0 (sequence_first begins) empty_nothing

-- The three, in this order, as 2014 answers them,
pub answers_2014 :
    answer_at By2014 aligned_indent 2 1 ∷ answer_at By2014 aligned_in_not 3 1 ∷ answer_at By2014 aligned_empty 4 0 ∷ []
    ≡ cases.reads 1 1 (At 1) false 0 ∷ cases.fails 0 ∷ cases.reads 1 0 (At 0) false 0 ∷ []
unfolding answer_at aligned_indent aligned_in_not aligned_empty each_words form evaluate outcome_for trace_for run_answer fails11 fails12 fails16
    every fails3 fails4 fails5 right_words table_answer gives known_after passes well_after may_nothing is_well verdict_from
    check_answer
answers_2014 = refl

-- and as 2017 does.
pub answers_2017 :
    answer_at By2017 aligned_indent 2 1 ∷ answer_at By2017 aligned_in_not 3 1 ∷ answer_at By2017 aligned_empty 4 0 ∷ []
    ≡ cases.fails 0 ∷ cases.reads 0 1 (At 1) false 0 ∷ cases.fails 0 ∷ []
unfolding answer_at aligned_indent aligned_in_not aligned_empty each_words form evaluate outcome_for trace_for run_answer fails11 fails12 fails16
    every fails3 fails4 fails5 right_words table_answer gives known_after passes well_after may_nothing is_well verdict_from
    check_answer
answers_2017 = refl
