-- `slices::put` meets its contract.
use Rattle.std.proofs.Common.{arith}
use Rattle.std.proofs.Math.ListN.{length-set}
use Rattle.slices.proofs.CopyLaws.{put_next}
use Rattle.slices.proofs.put.Goals as goal

pub loop-i-preserved : goal.loop-i-preserved
loop-i-preserved c =
    (simp length-set c.loop-i.invariant.0, put_next c.args.bytes.now c.args.out.now c.args.at c.loop-i.i c.loop-i.invariant.1 (omega arith) (omega arith))
