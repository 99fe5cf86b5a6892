-- `answer_line::put_success` meets its contract.
use Rattle.answer_line.proofs.PutLaws.{success_line}
use Rattle.answer_line.proofs.put_success.Goals as goal

pub returns : goal.returns
returns c =
    success_line c.args.read c.args.s.interval.lower c.args.s.interval.upper c.args.s.flag c.args.s.farthest
    c.put_number-first.ensures.puts c.put_number-second.ensures.puts c.put_upper-third.ensures.puts
    c.put_flag-fourth.ensures.puts c.put_number-fifth.ensures.puts c.put.ensures
