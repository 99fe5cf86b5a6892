-- `Index::terminal` meets its contract: the search goes on at `next` as well as at the first keyword.
use Rattle.file_fields.specs.Offsets.{keywords_from}
use Rattle.token_words.proofs.IndexLaws.{Reached, to_go}
use Rattle.token_words.proofs.index.Index.terminal.Given as goal

abbrev pub invariant-loop-next : goal.invariant-loop-next
invariant-loop-next l = Reached (keywords_from l.self.file.now l.self.count) l.s 0 l.next

abbrev pub decreases-loop-next : goal.decreases-loop-next
decreases-loop-next l = to_go l.self.count l.next
