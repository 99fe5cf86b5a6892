-- `stored_cases::load` meets its contract.
use Rattle.std.proofs.Common.{◌≡◌, ◌*◌, drop}
use Rattle.stored_cases.proofs.Laws.{Written}
use Rattle.stored_cases.proofs.load.Given as goal

abbrev pub invariant-loop-word : goal.invariant-loop-word
invariant-loop-word g l =
    record {
      words : Written (λ k. g.W.Word.word_at l.bytes (k * g.W.Word.SIZE)) l.initial.words l.words l.word-index;
      rest : l.rest ≡ drop (l.word-index * g.W.Word.SIZE) l.bytes;
    }
