-- What a step answers, check by check.
use Rattle.std.proofs.Common.{◌≡◌, ℕ, ◌≤◌, ◌<◌, Bool, true, false, ◌||◌, List, length, ltb, ◌+◌, Option, Some, None, option_map, refl, sym, ap, subst, ◌∙◌, arith}
use borrow.Author.Tests.{lt-ltb, le-ltb}
use Rattle.table.specs.Answer.{Answer, given, refused, refused_at, refuse_if, and_then}
use Rattle.table.specs.Refusals.{turned_down}
use Rattle.table.specs.declared.refusals.Refusal.{Refusal}
use Rattle.table.proofs.AnswerLaws.{turned_first, first_passes}
use Rattle.grammar_file.specs.File.{Contents, keywords, fields_of, file_answer}
use Rattle.report_checks.specs.Report.{fails8}
use Rattle.report_checks.specs.FirstChecks.{first_answer, Passed}
use Rattle.places.specs.Moves.{next_in, next_within}
use Rattle.places.specs.declared.Position.{Position}
use Rattle.places.specs.declared.Move.{Move}
use Rattle.places.proofs.FindLaws.{with_room}
use Rattle.places.specs.declared.Place.{Place}
use Rattle.file_fields.specs.Offsets.{keywords_from}
use Rattle.scanner.specs.declared.Token.{Token}
use Rattle.scanner.proofs.InsideLaws.{inside_of, found_inside}
use Rattle.scanner.specs.Tokens.{token_of}
use Rattle.scanner.specs.Steps.{step_fails8, step_fails9, step_answer, standing}

-- The checks that a step begins with, then its own number 8.
step_then :
    {A : Type 0} (a : Answer Contents) (b x y : Bool) (next : Answer A)
    → and_then (and_then a (refuse_if {A = Unit} b 8 (given tt))) (refuse_if (x || y) 8 next) ≡ and_then a (refuse_if (b || x || y) 8 next)
step_then (given c) true x y next = refl
step_then (given c) false x y next = refl
step_then (refused n) b x y next = refl
step_then (refused_at n node) b x y next = refl

pub turned_stands : (r : Refusal) (text : List ℕ) (p : Position) → p ≡ standing (turned_down r) text p
turned_stands r text p = grind arith

-- One step.
module _ (file text : List ℕ) (p : Position) where
  pub step_first : (r : Refusal) → turned_down r ≡ first_answer file text → turned_down r ≡ step_answer file text p
  unfolding step_answer step_fails8 first_answer
  step_first r e =
      let later =
      refuse_if (ltb (length text) p.offset || ltb 524280 p.column) 8
      (refuse_if (step_fails9 (next_in text p).found) 9 (given (option_map (token_of (keywords (fields_of file)) text) (next_in text p).found))) in
      sym (turned_first Unit r later) ∙ ap (λ (a : Answer Unit). and_then a later) e ∙ step_then (file_answer file) (fails8 text) _ _ _

  module _ {k : ℕ} (h : Passed file text k) where
    -- Behind the first checks: the offset and the column, then the place that was found.
    pub step_by : (x y : Bool) → ltb (length text) p.offset ≡ x → ltb 524280 p.column ≡ y
        → refuse_if (x || y) 8 (refuse_if (step_fails9 (next_in text p).found) 9 (given (option_map (token_of (keywords (fields_of file)) text) (next_in text p).found)))
        ≡ step_answer file text p
    unfolding step_answer step_fails8 first_answer
    step_by x y a b = rw (← a, ← b) (first_passes _ h.passes ∙ step_then (file_answer file) (fails8 text) _ _ _)

    pub step_offset : length text < p.offset → refused 8 ≡ step_answer file text p
    step_offset w = step_by true _ (lt-ltb (length text) p.offset w) refl

    pub step_column : p.offset ≤ length text → 524280 < p.column → refused 8 ≡ step_answer file text p
    step_column a w = step_by false true (le-ltb (length text) p.offset a) (lt-ltb 524280 p.column w)

    module _ (a : p.offset ≤ length text) (b : p.column ≤ 524280) {v : Move} (e : v ≡ next_within text p) where
      moves : v ≡ next_in text p
      moves = e ∙ with_room text p (record { within = a; fits = omega (arith, h.short) })

      -- By what the place that was found says of number 9.
      step_on :
          {w : Bool}
          → w ≡ step_fails9 v.found
          → refuse_if w 9 (given (option_map (token_of (keywords (fields_of file)) text) v.found)) ≡ step_answer file text p
      step_on {w} q =
          ap (λ (t : Bool). refuse_if t 9 (given (option_map (token_of (keywords (fields_of file)) text) v.found))) q
          ∙ ap (λ (m : Move). refuse_if (step_fails9 m.found) 9 (given (option_map (token_of (keywords (fields_of file)) text) m.found))) moves
          ∙ step_by false false (le-ltb (length text) p.offset a) (le-ltb 524280 p.column b)

      pub step_none : v.found ≡ None → (given None ≡ step_answer file text p) × (v.reached ≡ (next_in text p).reached)
      unfolding step_fails9
      step_none n = (
        ap (λ (o : Option Place). given (option_map (token_of (keywords (fields_of file)) text) o)) (sym n) ∙ step_on (sym (ap step_fails9 n)),
        ap (λ (m : Move). m.reached) moves,
      )

      module _ {q : Place} (f : v.found ≡ Some q) where
        pub step_9 : 65535 < q.column → refused 9 ≡ step_answer file text p
        unfolding step_fails9
        step_9 w = step_on (sym (ap step_fails9 f ∙ lt-ltb 65535 q.column w))

        pub lies_inside : q.offset + q.length ≤ length text
        lies_inside =
            subst (λ (o : Option Place). inside_of o (length text)) f
            (subst (λ (m : Move). inside_of m.found (length text)) (sym moves) (found_inside text p a))

        pub step_token :
            q.column ≤ 65535
            → {t : Token}
            → t ≡ token_of (keywords_from file k) text q
            → (given (Some t) ≡ step_answer file text p) × (v.reached ≡ (next_in text p).reached)
        unfolding step_fails9
        step_token w {t} z = (
          ap (λ (t : Token). given (Some t)) (z ∙ ap (λ (ks : List (List ℕ)). token_of ks text q) (sym h.stands))
              ∙ ap (λ (o : Option Place). given (option_map (token_of (keywords (fields_of file)) text) o)) (sym f)
              ∙ step_on (sym (ap step_fails9 f ∙ le-ltb 65535 q.column w)),
          ap (λ (m : Move). m.reached) moves,
        )
