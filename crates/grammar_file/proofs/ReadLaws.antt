-- The answers, lookups and lent words of an inspected file.
use Prim.Native.Nat.{ℕ, ◌≤◌, ◌<◌}
use native.Mathlib.Omega.{arith}
use mathlib.Core.Path.{◌≡◌, refl, sym, ap, ◌∙◌}
use mathlib.Core.Bool.{Bool}
use mathlib.Core.List.{List, [], ◌++◌}
use lib.ListN.{length, drop, get_or-eq_default}
use native.Mathlib.Nat.{le_trans, le_of_eq}
use Rattle.table.specs.Answer.{given, refuse_if}
use Rattle.grammar_file.specs.File.{Contents, keywords, rule_names, rule_list, node_table}
use Rattle.grammar_file.specs.File.{fields_of, fails6, contents, file_answer, read_answer, part_of, keyword_bytes}
use Rattle.grammar_file.specs.File.{name_bytes}
use Rattle.file_tables.specs.Tables.{too_short, node_words, rule_nodes, lacks_room}
use Rattle.file_fields.specs.Offsets.{value_at, offset_of}
use Rattle.file_shape.specs.Shape.{Parts}
use Rattle.file_shape.specs.declared.Shape.{Shape}
use Rattle.table.specs.Refusals.{turned_down}
use Rattle.table.specs.declared.refusals.Refusal.{Refusal}
use Rattle.file_fields.proofs.Offsets.{length_spellings, spelling_from}
use Rattle.file_shape.proofs.PartLaws.{keywords_are, names_are, rules_are, nodes_are, keyword_count}
use Rattle.table.proofs.AnswerLaws.{turned_first}

part_down : (e : Refusal) (part : List ℕ) → part_of (turned_down e) part ≡ []
part_down e part = grind arith

-- A file that one of 1 to 5 refuses.
module _ (file : List ℕ) (e : Refusal) (h : file_answer file ≡ turned_down e) where
  pub read_refuses : (n m : ℕ) → turned_down e ≡ read_answer file n m
  unfolding read_answer
  read_refuses n m = rw h (sym (turned_first Contents e _))

  pub no_keyword : (k : ℕ) → [] ≡ keyword_bytes file k
  unfolding keyword_bytes
  no_keyword k = rw h (sym (part_down e _))

  pub no_name : (k : ℕ) → [] ≡ name_bytes file k
  unfolding name_bytes
  no_name k = rw h (sym (part_down e _))

-- A file that passes them.
module _ (file : List ℕ) (s : Shape) (i : Parts file s × (file_answer file ≡ given (contents (fields_of file)))) where
  pub keyword_at : (k : ℕ) → k < s.keywords → value_at file (offset_of file 4 k) ≡ keyword_bytes file k
  unfolding keyword_bytes
  keyword_at k h =
      rw (i.1, keywords_are file s i.0) (sym (spelling_from file 4 s.keywords 0 k h))

  pub keyword_past : (k : ℕ) → s.keywords ≤ k → [] ≡ keyword_bytes file k
  unfolding keyword_bytes
  keyword_past k h =
      rw i.1 (sym (get_or-eq_default (keywords (fields_of file)) [] (le_trans (le_of_eq (keyword_count file s i.0)) h)))

  pub name_at : (k : ℕ) → k < s.rules.count → drop 2 (value_at file (offset_of file s.rules.at k)) ≡ name_bytes file k
  unfolding name_bytes
  name_at k h = rw (i.1, names_are file s i.0) (sym (spelling_from file s.rules.at s.rules.count 2 k h))

  pub name_past : (k : ℕ) → s.rules.count ≤ k → [] ≡ name_bytes file k
  unfolding name_bytes
  name_past k h = rw i.1 (sym (get_or-eq_default (rule_names (fields_of file)) [] (le_trans (le_of_eq names_length) h)))
    where
      names_length : length (rule_names (fields_of file)) ≡ s.rules.count
      names_length = ap length (names_are file s i.0) ∙ length_spellings file s.rules.at s.rules.count 2

  -- Number 6: room for the nodes and the rules, or not.
  pub room : (words list : List ℕ) {b : Bool} → lacks_room file s.nodes s.rules words list ≡ b
      → refuse_if b 6 (given (contents (fields_of file))) ≡ read_answer file (length words) (length list)
  unfolding too_short fails6 read_answer
  room words list e = rw (i.1, nodes_are file s i.0, rules_are file s i.0, ← e) refl

  -- The lent words after a read.
  pub nodes_after : (old : List ℕ) → node_words file s.nodes ++ drop (length (node_words file s.nodes)) old ≡ node_table (fields_of file) ++ drop (length (node_table (fields_of file))) old
  nodes_after old = rw (nodes_are file s i.0) refl

  pub rules_after : (old : List ℕ) → rule_nodes file s.rules ++ drop (length (rule_nodes file s.rules)) old ≡ rule_list (fields_of file) ++ drop (length (rule_list (fields_of file))) old
  rules_after old = rw (rules_are file s i.0) refl
