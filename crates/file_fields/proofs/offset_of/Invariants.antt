-- `file_fields::offset_of` meets its contract.
use Rattle.std.proofs.Common.{◌≡◌}
use Rattle.file_fields.specs.Offsets.{offset_of}
use Rattle.file_fields.proofs.offset_of.Given as goal

abbrev pub invariant-loop : goal.invariant-loop
invariant-loop l = l.at ≡ offset_of l.file l.first l.counter
