-- `answer_line::text::put` meets its contract.
use Rattle.answer_line.proofs.PutLaws.{put_one}
use Rattle.answer_line.proofs.text.put.Goals as goal

pub returns : goal.returns
returns c = put_one c.args.out.now c.args.at c.args.byte c.requires
