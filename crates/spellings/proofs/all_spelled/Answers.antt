-- `spellings::all_spelled` meets its contract.
use Rattle.std.proofs.Common.{rules}
use Rattle.file_fields.proofs.Offsets.{length_spellings}
use Rattle.spellings.specs.Spellings.{spelled}
use Rattle.spellings.proofs.all_spelled.Goals as goal

pub returns : goal.returns
returns c = rw length_spellings (c.each_spelling.ensures spelled (λ s b k. search rules))
