-- `token_words::index::starts` meets its contract.
use Rattle.std.proofs.Common.{refl, arith}
use lib.ListN.{length-set}
use Rattle.file_fields.specs.Offsets.{offset_of}
use Rattle.file_fields.proofs.Offsets.{offset_next}
use Rattle.token_words.proofs.IndexLaws.{starts_more}
use Rattle.token_words.proofs.index.starts.Goals as goal

pub loop-k-init : goal.loop-k-init
unfolding offset_of
loop-k-init c = (omega arith, refl, record { room = omega arith; each = λ i h. absurd (omega arith) })

pub loop-k-preserved : goal.loop-k-preserved
loop-k-preserved c = (
  simp length-set c.loop-k.invariant.0,
  rw (offset_next, ← c.loop-k.invariant.1) c.next_at-at.ensures,
  starts_more c.loop-k.invariant.2 (omega arith) c.loop-k.invariant.1,
)
