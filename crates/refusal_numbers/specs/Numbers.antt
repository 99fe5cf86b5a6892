-- The answer that a refusal stands for which is told by a number, or as 7 with a node, and that of a result whose refusals are
-- told so.
use Rattle.std.specs.Prelude.{Result, Ok, Err}
use Rattle.table.specs.Answer.{Answer, given, refused, refused_at}
use Rattle.table.specs.Refusals.{number_of}
use Rattle.table.specs.declared.refusals.Refusal.{Refusal}
use Rattle.table.specs.declared.refusals.Refusal.TheVariants.{IllFormed as NotWellFormed}
use Rattle.refusal_numbers.specs.declared.Told.{Told}
use Rattle.refusal_numbers.specs.declared.Told.TheVariants.{Number, IllFormed}

-- The number, "with the node for 7".
abbrev pub answer_of : {A : Type 0} → Told → Answer A
answer_of (Number number) = refused number
answer_of (IllFormed node) = refused_at 7 node

-- What a refusal of the calls is told as.
abbrev pub told_of : Refusal → Told
told_of (NotWellFormed node) = IllFormed node
told_of r = Number (number_of r)

-- What a result answers: what was asked for, by what it means, or the refusal, by what it is told as.
abbrev pub answered_by : {A B E : Type 0} → (E → Told) → (A → B) → Result A E → Answer B
answered_by told meaning (Ok x) = given (meaning x)
answered_by told meaning (Err e) = answer_of (told e)
