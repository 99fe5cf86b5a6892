-- `stored_cases::show_each` meets its contract. The loop's invariant: as many are shown as words came before `word`.
use Rattle.std.proofs.Common.{◌≡◌}
use Rattle.stored_cases.proofs.show_each.Given as goal

abbrev pub invariant-loop-word : goal.invariant-loop-word
invariant-loop-word g l = l.shown ≡ l.word-index
