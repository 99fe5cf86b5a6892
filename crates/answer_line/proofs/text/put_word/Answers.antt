-- `answer_line::text::put_word` meets its contract.
use Rattle.std.proofs.Common.{arith, refl, ◌≡◌, ◌+◌, ◌-◌, length}
use Rattle.answer_line.proofs.PutLaws.{put_over}
use Rattle.answer_line.proofs.text.put_word.Goals as goal

pub returns : goal.returns
returns c =
    let n : c.args.at + length c.args.word.now - c.args.at ≡ length c.args.word.now = omega arith in
    put_over (omega arith) refl (rw (n, c.copy_from_slice.ensures.after) refl)
