-- `answer_line::entry::put_unread` meets its contract.
use Rattle.answer_line.proofs.EntryLaws.{unread_line}
use Rattle.answer_line.proofs.entry.put_unread.Goals as goal

pub returns : goal.returns
returns c = unread_line _ c.put_word-first.ensures c.put_word.ensures
