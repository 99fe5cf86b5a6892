-- `saktroum::upper_from` meets its contract.
use mathlib.Core.Path.{refl}
use Rattle.saktroum.proofs.upper_from.Goals as goal

pub returns-else-endless : goal.returns-else-endless
returns-else-endless c = rw c.if-endless.false refl
