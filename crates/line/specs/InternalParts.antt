-- What the parts before a run tell the two runs over them. No public promise rests on this file.
use Rattle.std.specs.Prelude.{ℕ, ◌*◌, ◌≤◌, ◌≡◌, List, length, take, Result, Ok, Err}
use Rattle.table.specs.Answer.{given}
use Rattle.table.specs.Refusals.{turned_down}
use Rattle.table.specs.declared.refusals.Refusal.{Refusal}
use Rattle.grammar_file.specs.File.{fields_of, node_table, rule_list, start_node, start_mode}
use Rattle.token_words.specs.Scan.{words_of, scan_tokens}
use Rattle.interpreter.specs.declared.Ran.{Ran}
use Rattle.interpreter.specs.declared.Ran.TheVariants.{Success, Failure}
use Rattle.interpreter.specs.declared.Listed.{Listed}
use Rattle.interpreter.specs.declared.Listed.TheVariants as listed
use Rattle.line.specs.Line.{parts_answer}
use Rattle.line.specs.Entries.{tokens_after}
use Rattle.line.specs.declared.Ready.{Ready}

-- All pass: the table, the rules and the tokens stand at the beginnings of their slices.
pub record Stands (file report : List ℕ) (lent : ℕ) (x : Ready) (nodes rules tokens : List ℕ) : Type 0 where
  pub passes : given tt ≡ parts_answer file report lent
  pub few : x.nodes * 4 ≤ 2048
  pub few_nodes : x.nodes * 4 ≤ length nodes
  pub few_rules : x.rules ≤ length rules
  pub few_tokens : x.tokens * 4 ≤ length tokens
  pub most : x.tokens ≤ 4096
  pub nodes_are : take (x.nodes * 4) nodes ≡ node_table (fields_of file)
  pub rules_are : take x.rules rules ≡ rule_list (fields_of file)
  pub tokens_are : take (x.tokens * 4) tokens ≡ words_of (scan_tokens file report)
  pub counted : x.tokens ≡ length (scan_tokens file report)
  pub node_is : x.node ≡ start_node (fields_of file)
  pub mode_is : x.mode ≡ start_mode (fields_of file)

-- What each result says.
abbrev pub Says : List ℕ → List ℕ → ℕ → Result Ready Refusal → List ℕ → List ℕ → List ℕ → Type 0
Says file report lent (Ok x) nodes rules tokens = Stands file report lent x nodes rules tokens
Says file report lent (Err refusal) nodes rules tokens = turned_down refusal ≡ parts_answer file report lent

-- And what the lent words hold.
pub record PartsGive (file report before : List ℕ) (x : Result Ready Refusal) (nodes rules tokens : List ℕ) : Type 0 where
  pub said : Says file report (length before) x nodes rules tokens
  pub written : tokens ≡ tokens_after file report before

-- What a run that lists answered, without the number of captures.
abbrev pub ran_of : Result Listed Refusal → Result Ran Refusal
ran_of (Ok (listed.Success read s n)) = Ok (Success read s)
ran_of (Ok (listed.Failure farthest)) = Ok (Failure farthest)
ran_of (Err refusal) = Err refusal
