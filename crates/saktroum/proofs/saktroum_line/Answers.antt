-- `saktroum::saktroum_line` meets its contract, which is that of `line::write`.
use Rattle.saktroum.proofs.saktroum_line.Goals as goal

pub returns : goal.returns
returns c =
    record {
      value = c.write.ensures.value;
      out_after = c.write.ensures.out_after;
    }
