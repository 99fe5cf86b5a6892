-- What a whole scan answers, as numbers (01, "The scanner" and "Turned-down calls").
use Rattle.std.specs.Prelude.{ℕ, Result}
use Rattle.table.specs.Answer.{Answer}
use Rattle.table.specs.Refusals.{answer_by}
use Rattle.table.specs.declared.refusals.Refusal.{Refusal}

-- 01's number, or the number of tokens, for what a scan answers.
abbrev pub numbers : Result ℕ Refusal → Answer ℕ
numbers = answer_by (λ n. n)
