-- What demand 3 says of bench case a: every outcome of the clauses over sets is a success at place 2 with the flag clear, whose
-- set has 0 and 1 and nothing else, and every derivation has farthest place 1; of a run that fails: every derivation has
-- farthest place 1, where b was tried, behind the last token; and of a grammar with one rule: every derivation over sets has
-- exactly one capture, and a run that lists answers 1. A weaker statement of the demand would not give these.
use Prim.Native.Nat.{ℕ, ◌≤◌}
use mathlib.Core.Path.{◌≡◌, refl, sym, ap, subst, ◌∙◌}
use mathlib.Core.Bool.{false}
use mathlib.Core.List.{List, [], ◌∷◌}
use mathlib.Core.Logic.{◌↔◌}
use lib.ListN.{length}
use native.Mathlib.Omega.{arith}
use Rattle.table.specs.Answer.{given}
use Rattle.table.specs.Words.{each_words}
use Rattle.table.specs.Every.{every}
use Rattle.table.specs.Form.{terminal, rule, sequence, indent, align, form}
use Rattle.table.specs.Checks.{table_answer, fails3, fails4, fails5, right_words}
use Rattle.columns.specs.Relations.{equal, greater, at_least, any}
use Rattle.columns.specs.Sets.{ColumnSet, sets}
use Rattle.columns.specs.Intervals.{to, ends}
use Rattle.columns.specs.declared.Upper.TheVariants.{At}
use Rattle.columns.specs.declared.Interval.{Interval}
use Rattle.columns.specs.declared.Capture.{Capture}
use Rattle.columns.specs.declared.Reading.TheVariants.{By2017}
use Rattle.well_formed.specs.Rounds.{gives, known_after, passes, well_after}
use Rattle.well_formed.specs.Check.{may_nothing, is_well, verdict_from, check_answer}
use Rattle.clauses.specs.Clauses.{State, Outcome, success, failure}
use Rattle.clauses.specs.AlikeOutcomes.{AlikeOutcome, alike_success}
use Rattle.clauses.specs.Limits.{fails11, fails12, fails16}
use Rattle.clauses.specs.Evaluation.{evaluate, outcome_for, trace_for}
use Rattle.clauses.specs.RunAnswer.{SetRun, set_farthest, Ended, run_answer}
use Rattle.clauses.specs.ListAnswer.{set_captures, our_captures, list_answer, list_words, list_after}
use Rattle.clauses.specs.ThirdDemand.{ThirdDemand, ListDemand}
use Rattle.clauses.specs.Cases.{four_words, token_words, ◌at◌, from, a, b}

pub nodes : List ℕ
nodes = each_words four_words (terminal a ∷ terminal b ∷ sequence 0 1 ∷ align 2 ∷ indent 3 greater ∷ [])

pub words : List ℕ
words = each_words token_words (a at 2 ∷ b at 3 ∷ [])

abbrev pub end : State Interval
end = (2, to 0 (At 1), false)

answer : run_answer By2017 nodes [] words (from 4 at_least) ≡ given (record { outcome = success end; farthest = 1 })
unfolding nodes words each_words run_answer form evaluate outcome_for trace_for fails11 fails12 fails16 every fails3 fails4 fails5
    right_words table_answer gives known_after passes well_after may_nothing is_well verdict_from check_answer
answer = refl

pub data Says : Outcome ColumnSet → Type 1 where
  two_read : {S : ColumnSet} → ((k : ℕ) → S k ↔ (k ≤ 1)) → Says (success (2, S, false))

module _ (d : ThirdDemand By2017 nodes [] words (from 4 at_least)) where
  same_end : d.ours ≡ record { outcome = success end; farthest = 1 }
  same_end = let p = d.answered in let q = answer in cc

  pub ours : d.ours.outcome ≡ success end
  ours = ap (λ (e : Ended). e.outcome) same_end

  by_likeness : {o : Outcome ColumnSet} → AlikeOutcome ends sets (success end) o → Says o
  by_likeness (alike_success h) = two_read (λ k. (λ m. ((h.members k).0 m).upto, λ l. (h.members k).1 (record { from = omega arith; upto = l })))

  pub says : (o : Outcome ColumnSet) → SetRun By2017 nodes [] words (from 4 at_least) o → Says o
  says o e = subst Says (sym (d.only o e)) (by_likeness (subst (λ (v : Outcome Interval). AlikeOutcome ends sets v d.theirs) ours d.alike))

  pub says_two : (d.read end ours).0 ≡ 2
  says_two = let r = (d.read end ours).1 in omega arith

  pub says_farthest :
      (o : Outcome ColumnSet) (e : SetRun By2017 nodes [] words (from 4 at_least) o)
      → set_farthest By2017 nodes [] words (from 4 at_least) o e ≡ 1
  says_farthest o e = d.looked o e ∙ ap (λ (x : Ended). x.farthest) same_end

-- b behind a, on a alone: a failure, and b was tried behind the last token.
pub short : List ℕ
short = each_words token_words (a at 2 ∷ [])

failed : run_answer By2017 nodes [] short (from 2 any) ≡ given (record { outcome = failure; farthest = 1 })
unfolding nodes short each_words run_answer form evaluate outcome_for trace_for fails11 fails12 fails16 every fails3 fails4 fails5
    right_words table_answer gives known_after passes well_after may_nothing is_well verdict_from check_answer
failed = refl

pub says_failure :
    ThirdDemand By2017 nodes [] short (from 2 any)
    → (o : Outcome ColumnSet) (d : SetRun By2017 nodes [] short (from 2 any) o)
    → set_farthest By2017 nodes [] short (from 2 any) o d ≡ 1
says_failure h o d =
    let p = h.answered in
    let q = failed in
    let e : h.ours ≡ record { outcome = failure; farthest = 1 } = cc in
    h.looked o d ∙ ap (λ (x : Ended). x.farthest) e

-- Rule 0 is a; from a node that is rule 0, on a.
pub ruled : List ℕ
ruled = each_words four_words (terminal a ∷ rule 0 ∷ [])

pub one_token : List ℕ
one_token = each_words token_words (a at 0 ∷ [])

abbrev pub one_rule : List ℕ
one_rule = 0 ∷ []

abbrev pub one_capture : List Capture
one_capture = record { rule = 0; first = 0; after = 1; around = 0 } ∷ []

computed : our_captures By2017 ruled one_rule one_token (from 1 equal) ≡ one_capture
unfolding ruled one_token each_words form evaluate outcome_for trace_for
computed = refl

pub says_captures :
    ThirdDemand By2017 ruled one_rule one_token (from 1 equal)
    → (o : Outcome ColumnSet) (d : SetRun By2017 ruled one_rule one_token (from 1 equal) o)
    → set_captures By2017 ruled one_rule one_token (from 1 equal) o d ≡ one_capture
says_captures h o d = h.captures o d ∙ computed

-- With room for it.
pub says_count :
    (h : ListDemand By2017 ruled one_rule one_token (from 1 equal) 4)
    → list_answer By2017 ruled one_rule one_token (from 1 equal) 4 ≡ given (record { ended = h.demand.ours; count = 1 })
says_count h = h.answered ∙ ap (λ (l : List Capture). given (record { ended = h.demand.ours; count = length l })) computed

pub says_words :
    ListDemand By2017 ruled one_rule one_token (from 1 equal) 6
    → (o : Outcome ColumnSet) (d : SetRun By2017 ruled one_rule one_token (from 1 equal) o)
    → list_after By2017 ruled one_rule one_token (from 1 equal) (9 ∷ 9 ∷ 9 ∷ 9 ∷ 9 ∷ 9 ∷ []) ≡ 0 ∷ 0 ∷ 1 ∷ 0 ∷ 0 ∷ 0 ∷ []
unfolding each_words
says_words h o d = h.stands _ refl o d ∙ ap (λ (l : List Capture). list_words l 6) (says_captures h.demand o d)
