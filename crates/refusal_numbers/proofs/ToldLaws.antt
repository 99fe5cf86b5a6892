-- What is told of a refusal of the calls is what `table: Refusals` says of it.
use mathlib.Core.Path.{◌≡◌, refl}
use Rattle.std.specs.Prelude.{Result, Ok, Err}
use Rattle.table.specs.Refusals.{turned_down, answer_by}
use Rattle.table.specs.declared.refusals.Refusal.{Refusal}
use Rattle.table.specs.declared.refusals.Refusal.TheVariants.{IllFormed}
use Rattle.refusal_numbers.specs.Numbers.{answer_of, told_of, answered_by}

pub told_as : {B : Type 0} (e : Refusal) → answer_of {A = B} (told_of e) ≡ turned_down e
told_as (IllFormed node) = refl
told_as e = refl

pub answers_as : {A B : Type 0} (meaning : A → B) (x : Result A Refusal) → answered_by told_of meaning x ≡ answer_by meaning x
answers_as meaning (Ok x) = refl
answers_as meaning (Err e) = told_as e
