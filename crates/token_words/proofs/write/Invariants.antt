-- `token_words::write` meets its contract.
use Rattle.std.proofs.Common.{length}
use Rattle.file_fields.specs.Offsets.{keywords_from}
use Rattle.token_words.proofs.LoopLaws.{ahead, Writing}
use Rattle.token_words.proofs.write.Given as goal

abbrev pub invariant-loop-next : goal.invariant-loop-next
invariant-loop-next l = Writing l.report (keywords_from l.file l.keywords) l.initial.tokens l.next l.to l.tokens

abbrev pub decreases-loop-next : goal.decreases-loop-next
decreases-loop-next l = length (ahead l.report l.next)
