-- `answer_line::text::put_number` meets its contract.
use native.Mathlib.Omega.{arith}
use Rattle.answer_line.proofs.PutLaws.{put_then}
use Rattle.answer_line.proofs.text.put_number.Goals as goal

pub returns : goal.returns
returns c =
    record {
      puts = put_then c.put_word-next.ensures c.put_decimal.ensures.puts;
      upper_bound = omega (arith, c.put_word-next.ensures.place);
    }
