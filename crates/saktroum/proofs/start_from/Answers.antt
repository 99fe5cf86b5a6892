-- `saktroum::start_from` meets its contract.
use mathlib.Core.Path.{refl}
use Rattle.saktroum.proofs.start_from.Goals as goal

pub returns : goal.returns
returns c = rw c.upper_from.ensures refl
