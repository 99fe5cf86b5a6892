-- `stored_cases::show_fours` meets its contract. The loop's invariant: those shown and those left are all the words.
use Rattle.std.proofs.Common.{length, ◌≡◌, ◌+◌}
use Rattle.std.specs.Slice.Iter.{chunks_rest, chunks_size}
use Rattle.stored_cases.proofs.show_fours.Given as goal

abbrev pub invariant-loop-four : goal.invariant-loop-four
invariant-loop-four l = (l.shown + length (chunks_rest l.four-iterator) ≡ length l.words) × (chunks_size l.four-iterator ≡ 4)
