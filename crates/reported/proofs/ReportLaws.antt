-- What is reported of a refusal, and that a run is reported in one way.
use Rattle.std.proofs.Common.{ℕ, ◌≡◌, refl, ap, List, arith}
use Rattle.table.specs.Answer.{Answer}
use Rattle.refusal_numbers.specs.declared.Told.{Told}
use Rattle.refusal_numbers.specs.declared.Told.TheVariants.{Number, IllFormed}
use Rattle.refusal_numbers.specs.Numbers.{answer_of}
use Rattle.clauses.specs.RunAnswer.{Ended}
use Rattle.reported.specs.Reported.{success_words}
use Rattle.reported.specs.Reported.{RunReported, of_success, of_failure, of_refused, of_refused_at}

-- A run that is refused: the lent words are as they were.
pub run_refused : (told : Told) (place : ℕ) (before : List ℕ) → RunReported place before (answer_of told) before
run_refused (Number number) place before = of_refused
run_refused (IllFormed node) place before = of_refused_at

-- The relation fixes every word: from the same words before, an answer is reported in one way.
pub one_report :
    {place : ℕ} {before after after' : List ℕ} {a : Answer Ended}
    → RunReported place before a after
    → RunReported place before a after'
    → after ≡ after'
one_report (of_success {read = read} {farthest = farthest} {c = c} {flag = flag} e) (of_success {read = read'} e') =
    ap (λ (n : ℕ). success_words n c flag farthest) (let q : read ≡ read' = omega arith in q)
one_report of_failure of_failure = refl
one_report of_refused of_refused = refl
one_report of_refused_at of_refused_at = refl
