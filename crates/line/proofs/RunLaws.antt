-- The two runs over the parts: the line's answer, and the answer and the lent words of a list.
use Prim.Native.Nat.{ℕ, ◌*◌}
use mathlib.Core.Path.{◌≡◌, refl, sym, ap, subst, ◌∙◌}
use mathlib.Core.List.{List}
use lib.ListN.{length, take}
use native.Mathlib.Omega.{arith}
use Rattle.std.specs.Prelude.{Result, Ok, Err}
use Rattle.table.specs.Answer.{Answer, given, afterwards}
use Rattle.table.specs.Refusals.{turned_down}
use Rattle.table.specs.declared.refusals.Refusal.{Refusal}
use Rattle.grammar_file.specs.File.{fields_of, node_table, rule_list}
use Rattle.token_words.specs.Scan.{words_of, scan_tokens}
use Rattle.columns.specs.declared.Start.{Start}
use Rattle.columns.specs.declared.Reading.{Reading}
use Rattle.columns.specs.declared.Reading.TheVariants.{By2017}
use Rattle.clauses.specs.RunAnswer.{run_answer}
use Rattle.clauses.specs.ListAnswer.{Listing, list_answer, list_after, list_words}
use Rattle.interpreter.specs.Numbers.{numbers, list_numbers, ListDerived}
use Rattle.interpreter.specs.declared.Ran.{Ran}
use Rattle.interpreter.specs.declared.Listed.{Listed}
use Rattle.interpreter.specs.declared.Listed.TheVariants.{Success, Failure}
use Rattle.line.specs.Line.{start_at, file_start, parts_answer, line_answer}
use Rattle.line.specs.Entries.{entries_answer, end_answer, Placed, capture_count, given_count, token_count, captures_after, entries}
use Rattle.line.specs.InternalParts.{Stands, ran_of}
use Rattle.line.specs.declared.Ready.{Ready}
use Rattle.line.specs.declared.Entries.{Entries}
use Rattle.line.proofs.PartLaws.{parts_refuse, parts_pass}
use Rattle.table.proofs.AnswerLaws.{turned_keeps}

-- The line's answer.
module _ (file report : List ℕ) where
  pub line_refuses : (e : Refusal) → turned_down e ≡ parts_answer file report 16384 → turned_down e ≡ line_answer file report
  unfolding line_answer
  line_refuses e d = parts_refuse file report 16384 _ e d

-- The file's start on what stands in the lent words.
module _ {file report : List ℕ} {room : ℕ} {p : Ready} {nodes rules tokens : List ℕ} (h : Stands file report room p nodes rules tokens) where
  abbrev N : List ℕ
  N = take (p.nodes * 4) nodes

  abbrev R : List ℕ
  R = take p.rules rules

  abbrev T : List ℕ
  T = take (p.tokens * 4) tokens

  same_start : {start : Start} → start ≡ start_at p.node p.mode → start ≡ file_start file
  same_start e = e ∙ rw (h.node_is, h.mode_is) refl

  pub line_runs :
      room ≡ 16384
      → {start : Start} (x : Result Ran Refusal)
      → start ≡ start_at p.node p.mode
      → numbers start.place x ≡ run_answer By2017 N R T start
      → numbers 0 x ≡ line_answer file report
  unfolding line_answer
  line_runs l x e d =
      let q : numbers 0 x ≡ run_answer By2017 N R T (file_start file) =
      subst (λ (s : Start). numbers s.place x ≡ run_answer By2017 N R T s) (same_start e) d in
      q
      ∙ rw (h.nodes_are, h.rules_are, h.tokens_are)
      (rw l at
      (parts_pass file report room
      (run_answer By2017 (node_table (fields_of file)) (rule_list (fields_of file)) (words_of (scan_tokens file report)) (file_start file)) h.passes))

  -- The answer of a list, and the words lent for its captures.
  module _ (before : List ℕ) {start : Start} (e : start ≡ start_at p.node p.mode) where
    list_is : list_answer By2017 N R T start (length before) ≡ entries_answer file report room (length before)
    unfolding entries_answer
    list_is = rw (same_start e, h.nodes_are, h.rules_are, h.tokens_are) (parts_pass file report room _ h.passes)

    pub list_answers :
        (y : Result Listed Refusal)
        → list_numbers start.place y ≡ list_answer By2017 N R T start (length before)
        → list_numbers 0 y ≡ entries_answer file report room (length before)
    list_answers y d = subst (λ (s : Start). list_numbers s.place y ≡ entries_answer file report room (length before)) (same_start e) (d ∙ list_is)

    pub list_leaves :
        {after : List ℕ}
        → after ≡ list_after By2017 N R T start before
        → after ≡ captures_after file report room before
    unfolding list_after captures_after entries_answer
    list_leaves d =
        d
        ∙ rw (same_start e, h.nodes_are, h.rules_are, h.tokens_are)
        (ap (λ (a : Answer Listing). afterwards a (list_words (entries file report) (length before)) before)
        (parts_pass file report room
        (list_answer By2017 (node_table (fields_of file)) (rule_list (fields_of file)) (words_of (scan_tokens file report)) (file_start file) (length before))
        h.passes))

  pub token_count_lem : p.tokens ≡ token_count file report room
  unfolding token_count
  token_count_lem = h.counted ∙ ap given_count (parts_pass file report room (given (length (scan_tokens file report))) h.passes)

-- What is told of a list that is refused.
end_refused : (e : Refusal) → turned_down e ≡ end_answer (turned_down e)
end_refused e = grind arith

given_refused : (e : Refusal) → given_count (turned_down e) ≡ 0
given_refused e = grind arith

-- A list where the parts refuse.
module _ (file report before : List ℕ) (room : ℕ) (x : Entries) where
  pub record Nothing (a : Answer Listing) : Type 0 where
    pub answer : numbers 0 x.answer ≡ end_answer a
    pub tokens : x.tokens ≡ token_count file report room
    pub captures : x.captures ≡ capture_count a
    pub unchanged : before ≡ captures_after file report room before
    pub placed : Placed x.answer

  pub none_refused :
      (e : Refusal)
      → turned_down e ≡ parts_answer file report room
      → (x.answer ≡ Err e) × (x.tokens ≡ 0) × (x.captures ≡ capture_count (turned_down e))
      → Nothing (entries_answer file report room (length before))
  unfolding entries_answer token_count captures_after
  none_refused e q d =
      let listed = parts_refuse file report room _ e q in
      record {
        answer = ap (numbers 0) d.0 ∙ end_refused e ∙ ap end_answer listed;
        placed = subst Placed (sym d.0) tt;
        tokens = d.1 ∙ sym (given_refused e) ∙ ap given_count (parts_refuse file report room _ e q);
        captures = d.2 ∙ ap capture_count listed;
        unchanged = sym (turned_keeps Listing e (list_words (entries file report) (length before)) before) ∙ ap (λ (a : Answer Listing). afterwards a (list_words (entries file report) (length before)) before) listed;
      }

-- What a run that lists answered, without the number of captures: the same end, and a state that stands where the tokens read end.
pub ran_numbers : (x : Result Listed Refusal) → numbers 0 (ran_of x) ≡ end_answer (list_numbers 0 x)
ran_numbers (Ok (Success read s n)) = refl
ran_numbers (Ok (Failure farthest)) = refl
ran_numbers (Err e) = end_refused e

pub ran_placed :
    (reading : Reading) (nodes rules words : List ℕ) (start : Start) (slice : List ℕ) (x : Result Listed Refusal)
    → start.place ≡ 0
    → ListDerived reading nodes rules words start x slice
    → Placed (ran_of x)
ran_placed reading nodes rules words start slice (Ok (Success read s n)) e d = rw e at d.1
ran_placed reading nodes rules words start slice (Ok (Failure farthest)) e d = tt
ran_placed reading nodes rules words start slice (Err f) e d = tt
