-- What is reported of a run that lists and is refused, and that it is reported in one way.
use Rattle.std.proofs.Common.{ℕ, ◌≡◌, refl, ap, Bool, List, ◌++◌, [], ◌∷◌, get_or, arith}
use Rattle.table.specs.Answer.{Answer, given}
use Rattle.refusal_numbers.specs.declared.Told.{Told}
use Rattle.refusal_numbers.specs.declared.Told.TheVariants.{Number, IllFormed}
use Rattle.refusal_numbers.specs.Numbers.{answer_of}
use Rattle.columns.specs.Intervals.{to}
use Rattle.columns.specs.declared.State.{State}
use Rattle.columns.specs.declared.Upper.{Upper}
use Rattle.columns.specs.declared.Upper.TheVariants.{At, Endless}
use Rattle.clauses.specs.ListAnswer.{Listing}
use Rattle.interpreter.specs.Numbers.{listed_to}
use Rattle.interpreter.specs.declared.Listed.TheVariants.{Success}
use Rattle.reported.specs.Reported.{success_words}
use Rattle.reported.specs.Reported.{ListReported, list_success, list_failure, list_refused, list_refused_at}

-- Seven words, taken one by one, and an eighth behind them.
abbrev pub eight_words : List ℕ → ℕ → List ℕ
eight_words w n = get_or w 0 0 ∷ get_or w 1 0 ∷ get_or w 2 0 ∷ get_or w 3 0 ∷ get_or w 4 0 ∷ get_or w 5 0 ∷ get_or w 6 0 ∷ n ∷ []

by_upper :
    (read lower : ℕ) (upper : Upper) (flag : Bool) (farthest n : ℕ)
    → let w = success_words read (to lower upper) flag farthest in eight_words w n ≡ w ++ (n ∷ [])
by_upper read lower (At h) flag farthest n = refl
by_upper read lower Endless flag farthest n = refl

pub listed :
    {w : List ℕ} (read : ℕ) (s : State) (n place : ℕ) (before : List ℕ)
    → w ≡ success_words read s.interval s.flag s.farthest
    → ListReported place before (given (listed_to place (Success read s n))) (eight_words w n)
listed read s n place before e = rw (e, by_upper read s.interval.lower s.interval.upper s.flag s.farthest n) (list_success refl)

-- A run that is refused: the lent words are as they were.
pub list_is_refused : (told : Told) (place : ℕ) (before : List ℕ) → ListReported place before (answer_of told) before
list_is_refused (Number number) place before = list_refused
list_is_refused (IllFormed node) place before = list_refused_at

-- The relation fixes every word, as that of a run without a list does.
pub one_report :
    {place : ℕ} {before after after' : List ℕ} {a : Answer Listing}
    → ListReported place before a after
    → ListReported place before a after'
    → after ≡ after'
one_report (list_success {read = read} {farthest = farthest} {count = count} {c = c} {flag = flag} e) (list_success {read = read'} e') =
    ap (λ (n : ℕ). success_words n c flag farthest ++ (count ∷ [])) (let q : read ≡ read' = omega arith in q)
one_report list_failure list_failure = refl
one_report list_refused list_refused = refl
one_report list_refused_at list_refused_at = refl
