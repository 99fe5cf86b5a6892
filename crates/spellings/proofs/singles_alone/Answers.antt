-- `spellings::singles_alone` meets its contract.
use Rattle.std.proofs.Common.{rules}
use Rattle.file_fields.proofs.Offsets.{length_spellings}
use Rattle.spellings.specs.Spellings.{single_alone}
use Rattle.spellings.proofs.singles_alone.Goals as goal

pub returns : goal.returns
returns c = rw length_spellings (c.each_spelling.ensures single_alone (λ s b k. search rules))
