-- How many of the lent words a read may have written: four a node and one a rule, none where it was refused.
use Rattle.std.specs.Prelude.{ℕ, ◌*◌, min, Result, Ok, Err}
use Rattle.table.specs.declared.refusals.Refusal.{Refusal}
use Rattle.grammar_file.specs.declared.Contents.{Contents}

abbrev pub nodes_written : Result Contents Refusal → ℕ
nodes_written (Ok contents) = min contents.nodes 512 * 4
nodes_written (Err refusal) = 0

abbrev pub rules_written : Result Contents Refusal → ℕ
rules_written (Ok contents) = contents.rules
rules_written (Err refusal) = 0
