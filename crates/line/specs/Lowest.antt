-- What "the lowest number that any of the four parts gives" means (01, "Bench cases", last paragraph).
use Rattle.std.specs.Prelude.{ℕ, ◌≤◌, ◌*◌, ◌≡◌, List}
use Rattle.table.specs.Answer.{Answer, given, refused, refused_at}
use Rattle.table.specs.Limits.{most_nodes, most_rules, most_tokens}
use Rattle.grammar_file.specs.File.{fields_of, node_table, rule_list, start_node, start_mode, read_answer}
use Rattle.token_words.specs.Scan.{words_of, scan_tokens, scan_answer}
use Rattle.well_formed.specs.Check.{check_answer}
use Rattle.columns.specs.declared.Reading.TheVariants.{By2017}
use Rattle.clauses.specs.RunAnswer.{run_answer}
use Rattle.line.specs.Line.{start_at}

-- An answer refuses with number n.
abbrev pub Refuses : {A : Type 0} → Answer A → ℕ → Type 0
Refuses (given a) n = ⊥
Refuses (refused number) n = n ≡ number
Refuses (refused_at number node) n = n ≡ number

-- A part gives number n: the file reader, the check of the file's table, the scanner, the interpreter on both.
pub data Gives (file report : List ℕ) (n : ℕ) : Type 0 where
  by_reader : Refuses (read_answer file (most_nodes * 4) most_rules) n → Gives file report n
  by_check : Refuses (check_answer (node_table (fields_of file)) (rule_list (fields_of file))) n → Gives file report n
  by_scanner : Refuses (scan_answer file report (most_tokens * 4)) n → Gives file report n
  by_interpreter :
      Refuses
      (run_answer By2017 (node_table (fields_of file)) (rule_list (fields_of file)) (words_of (scan_tokens file report))
      (start_at (start_node (fields_of file)) (start_mode (fields_of file)))) n
      → Gives file report n

-- n is the lowest number that any part gives.
pub record Lowest (file report : List ℕ) (n : ℕ) : Type 0 where
  pub one : Gives file report n
  pub lowest : (m : ℕ) → Gives file report m → n ≤ m
