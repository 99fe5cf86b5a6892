-- `spellings::each_spelling` meets its contract. The loop's invariant: `at` is the offset of the next field, and a test that
-- says what the calls answer holds of the spellings before it.
use Rattle.std.proofs.Common.{ℕ, Bool, true, List, [], ◌≡◌, get_or}
use Rattle.std.specs.Fn.{FnReturnsAt}
use Rattle.table.specs.Every.{every}
use Rattle.file_fields.specs.Offsets.{offset_of, spellings_from}
use Rattle.spellings.proofs.each_spelling.Given as goal

abbrev pub invariant-loop : goal.invariant-loop
invariant-loop g l = record {
  stands : l.at ≡ offset_of l.file l.fn.group.at l.counter;
  right : (p : List ℕ → Bool) → ((s : List ℕ) (b : Bool) → FnReturnsAt g.F.Fn l.test s b → b ≡ p s)
      → every l.counter (λ k. p (get_or (spellings_from l.file l.fn.group.at l.fn.group.count l.skip) k [])) ≡ true;
}
