-- A file that the writer wrote is read back: it passes 1 to 5, and the nodes, rules, start, keywords and names are those that
-- the writer had. It is never longer than 18,209 bytes, and what was read back is written again as the same file.
use Prim.Native.Nat.{ℕ, ◌/◌, ◌%◌, ◌≤◌}
use mathlib.Core.Path.{◌≡◌, refl, sym, ap, ap₂, ◌∙◌}
use mathlib.Core.Bool.{false, not, ◌&&◌, ◌||◌}
use mathlib.Core.List.{List, [], ◌∷◌, ◌++◌}
use mathlib.Core.Option
use mathlib.Core.Option.{Option, some}
use native.Mathlib.Omega.{arith}
use borrow.Author.Tests.{le-ltb}
use lib.ListN.{length, get_or, drop, length-map}
use Rattle.table.specs.Answer.{Answer, given, afterwards}
use Rattle.table.specs.Every.{every}
use Rattle.table.specs.Form.{node_count}
use Rattle.table.specs.Limits.{most_nodes, most_rules}
use Rattle.table.proofs.Inside.{counts_inside}
use Rattle.file_fields.specs.Fields.{Field, two_bytes, fields, in_order, tagged}
use Rattle.spellings.specs.Spellings.{single_alone, right_spellings}
use Rattle.file_shape.specs.declared.Contents.{Contents}
use Rattle.file_shape.specs.Contents.{right_values, keywords, rule_list, rule_names, node_table, start_value, start_node, start_mode, fields_of}
use Rattle.file_shape.specs.Contents.{fails2, contents, file_answer}
use Rattle.grammar_file.specs.File.{fails6, read_answer, part_of, keyword_bytes, name_bytes}
use Rattle.grammar_writer.specs.Written.{written_fields, written_file, write_answer}
use Rattle.written_files.proofs.FieldsBack.{two_number, fields_back}
use Rattle.grammar_writer.proofs.LendLaws.{table_right, both_spelled}
use Rattle.grammar_writer.proofs.SectionLaws.{spelling_short}
use Rattle.grammar_writer.proofs.FileLaws.{longest}
use Rattle.written_files.proofs.Passed.{Right, Lent, right_passes, writes_lent}
use Rattle.written_files.proofs.WrittenParts.{written_ordered, written_values, written_keywords, written_rules, written_names, written_nodes, written_start}

-- There are as many names as rules.
names_count : (fs : List Field) → length (rule_names fs) ≡ length (rule_list fs)
unfolding rule_names rule_list
names_count fs = length-map (tagged 3 fs) _ ∙ sym (length-map (tagged 3 fs) _)

-- Number 2 goes by the keywords and the names.
spelled_same : (fs gs : List Field) → keywords fs ≡ keywords gs → rule_names fs ≡ rule_names gs → fails2 fs ≡ fails2 gs
unfolding fails2
spelled_same fs gs p q =
    ap₂
    (λ (ks ns : List (List ℕ)).
    not (right_spellings ks && every (length ks) (λ k. single_alone (get_or ks k [])) && right_spellings ns)) p q

module _ (lending nodes rules : List ℕ) (node mode lent n : ℕ) (w : write_answer lending nodes rules node mode lent ≡ given n) where
  abbrev file : List ℕ
  file = written_file lending nodes rules node mode

  abbrev words : List (List ℕ)
  words = keywords (fields_of lending)

  abbrev names : List (List ℕ)
  names = rule_names (fields_of lending)

  abbrev made : List Field
  made = written_fields words names nodes rules node mode

  had : Lent lending nodes rules node mode
  had = (writes_lent lending nodes rules node mode lent n w).0

  -- The answer is the number of the file's bytes.
  pub length_told : n ≡ length file
  length_told = sym (writes_lent lending nodes rules node mode lent n w).1

  counts : (length nodes % 4 ≡ 0) × (node_count nodes ≤ most_nodes) × (length rules ≤ most_rules)
  counts = counts_inside nodes rules (table_right nodes rules node mode had.started)

  whole : fields file ≡ some made
  unfolding written_file
  whole = fields_back made

  fields_are : fields_of file ≡ made
  fields_are = ap (λ (o : Option (List Field)). Option.get_or o []) whole

  -- The table that is read back is the one that was written.
  pub nodes_back : node_table (fields_of file) ≡ nodes
  nodes_back = ap node_table fields_are ∙ written_nodes words names nodes rules node mode counts.0

  -- So is the rule list.
  pub rules_back : rule_list (fields_of file) ≡ rules
  rules_back = ap rule_list fields_are ∙ written_rules words names nodes rules node mode

  -- The keywords are the lending file's.
  pub keywords_back : keywords (fields_of file) ≡ words
  keywords_back = ap keywords fields_are ∙ written_keywords words names nodes rules node mode

  -- So are the names.
  pub names_back : rule_names (fields_of file) ≡ names
  names_back =
      ap rule_names fields_are
      ∙ written_names words names nodes rules node mode (names_count (fields_of lending) ∙ sym had.counted)

  value_back : start_value (fields_of file) ≡ node / 256 ∷ node % 256 ∷ mode ∷ []
  value_back = ap start_value fields_are ∙ written_start words names nodes rules node mode

  -- The start is the one that was written.
  pub start_back : (start_node (fields_of file) ≡ node) × (start_mode (fields_of file) ≡ mode)
  start_back = (
    ap (λ (v : List ℕ). two_bytes (get_or v 0 0) (get_or v 1 0)) value_back ∙ two_number node,
    ap (λ (v : List ℕ). get_or v 2 0) value_back,
  )

  -- The file has at most 18,209 bytes.
  pub never_long : length file ≤ 18209
  unfolding written_file
  never_long =
      let s = both_spelled (fields_of lending) had.lends.framed.names in
      longest words names nodes rules node mode (spelling_short words s.0) (spelling_short names s.1)
      had.lends.framed.few
      counts.1
      counts.2

  short : length file ≤ 65535
  unfolding written_file
  short =
      let s = both_spelled (fields_of lending) had.lends.framed.names in
      omega (
        arith,
        longest words names nodes rules node mode (spelling_short words s.0) (spelling_short names s.1)
            had.lends.framed.few counts.1 counts.2,
      )

  right : Right file
  right =
      record {
        short = short;
        whole = whole ∙ ap some (sym fields_are);
        framed =
            record {
              ordered = ap in_order fields_are ∙ written_ordered words names nodes rules node mode;
              values = ap right_values fields_are ∙ written_values words names nodes rules node mode;
              few = omega (arith, ap length keywords_back, had.lends.framed.few);
              names = spelled_same (fields_of file) (fields_of lending) keywords_back names_back ∙ had.lends.framed.names;
            };
        started = rw (nodes_back, rules_back, start_back.0, start_back.1) had.started;
      }

  -- What was written, counted.
  abbrev told : Contents
  told = record { nodes = node_count nodes; rules = length rules; keywords = length words; start = node; mode = mode }

  told_back : contents (fields_of file) ≡ told
  unfolding contents
  told_back =
      λ i.
      record {
        nodes = node_count (nodes_back i);
        rules = length (rules_back i);
        keywords = length (keywords_back i);
        start = start_back.0 i;
        mode = start_back.1 i;
      }

  -- The file passes 1 to 5, with the counts of what was written.
  pub passes_back : file_answer file ≡ given told
  passes_back = right_passes file right ∙ ap given told_back

  module _ (nodes_lent rules_lent : ℕ) (n_room : length nodes ≤ nodes_lent) (r_room : length rules ≤ rules_lent) where
    room : fails6 (fields_of file) nodes_lent rules_lent ≡ false
    unfolding fails6
    room =
        ap₂ ◌||◌ (le-ltb nodes_lent _ (omega (arith, ap length nodes_back)))
        (le-ltb rules_lent _ (omega (arith, ap length rules_back)))

    -- With room for the tables it is read.
    pub reads_back : read_answer file nodes_lent rules_lent ≡ given told
    unfolding read_answer
    reads_back = rw (passes_back, room) (ap given told_back)

    after : {read : List ℕ} (l : List ℕ) → read ≡ l → (before : List ℕ) → afterwards (read_answer file nodes_lent rules_lent) read before ≡ l ++ drop (length l) before
    after {read} l e before =
        ap (λ (a : Answer Contents). afterwards a read before) reads_back
        ∙ ap (λ (l : List ℕ). l ++ drop (length l) before) e

    -- The words lent for the nodes hold the table, and behind it what they held.
    pub nodes_read : (before : List ℕ) → afterwards (read_answer file nodes_lent rules_lent) (node_table (fields_of file)) before ≡ nodes ++ drop (length nodes) before
    nodes_read = after nodes nodes_back

    -- So do the words lent for the rules.
    pub rules_read : (before : List ℕ) → afterwards (read_answer file nodes_lent rules_lent) (rule_list (fields_of file)) before ≡ rules ++ drop (length rules) before
    rules_read = after rules rules_back

  part_back : {spellings : List (List ℕ)} (l : List (List ℕ)) → spellings ≡ l → (k : ℕ)
      → part_of (file_answer file) (get_or spellings k []) ≡ part_of (file_answer lending) (get_or l k [])
  part_back l e k = rw (passes_back, right_passes lending had.lends, e) refl

  -- A keyword is the lending file's of the same number.
  pub keyword_back : (k : ℕ) → keyword_bytes file k ≡ keyword_bytes lending k
  unfolding keyword_bytes
  keyword_back = part_back words keywords_back

  -- So is a rule's name.
  pub name_back : (r : ℕ) → name_bytes file r ≡ name_bytes lending r
  unfolding name_bytes
  name_back = part_back names names_back

  -- What was read back of the file is written again as the same file, whichever file lends these keywords and names.
  again : (lender : List ℕ) → keywords (fields_of lender) ≡ words → rule_names (fields_of lender) ≡ names
      → written_file lender (node_table (fields_of file)) (rule_list (fields_of file)) (start_node (fields_of file)) (start_mode (fields_of file)) ≡ file
  unfolding written_file
  again lender p q = rw (nodes_back, rules_back, start_back.0, start_back.1, p, q) refl

  -- The file that lent them does.
  pub written_again : written_file lending (node_table (fields_of file)) (rule_list (fields_of file)) (start_node (fields_of file)) (start_mode (fields_of file)) ≡ file
  written_again = again lending refl refl

  -- So does the written file itself.
  pub written_by_itself : written_file file (node_table (fields_of file)) (rule_list (fields_of file)) (start_node (fields_of file)) (start_mode (fields_of file)) ≡ file
  written_by_itself = again file keywords_back names_back
