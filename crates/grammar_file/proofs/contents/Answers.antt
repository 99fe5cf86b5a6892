-- `grammar_file::contents` meets its contract.
use Rattle.std.proofs.Common.{◌∙◌}
use Rattle.grammar_file.proofs.CountLaws.{counted}
use Rattle.grammar_file.proofs.contents.Goals as goal

pub returns : goal.returns
returns c =
    counted _ _ c.requires c.value_at-value.ensures c.first_number.ensures (c.from.ensures ∙ c.byte_in.ensures)
