-- `answer_line::entry::put_read` meets its contract.
use Rattle.answer_line.proofs.EntryLaws.{read_line}
use Rattle.answer_line.proofs.entry.put_read.Goals as goal

pub returns : goal.returns
returns c =
    read_line c.args.name.now c.args.line c.args.column c.args.text.now
    c.put_word-first.ensures c.put_number-second.ensures.puts c.put_number-third.ensures.puts
    c.put_word-fourth.ensures c.put_word-fifth.ensures c.put.ensures
