-- `answer_line::put_line` meets its contract.
use Rattle.answer_line.proofs.PutLaws.{put_then}
use Rattle.answer_line.proofs.put_line.Goals as goal

pub returns : goal.returns
returns c = put_then c.put_number-end.ensures.puts c.put.ensures
