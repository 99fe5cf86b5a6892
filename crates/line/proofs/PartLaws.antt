-- What the parts before a run answered, and what follows from it.
use Prim.Native.Nat.{ℕ, ◌*◌, ◌/◌, ◌≤◌}
use mathlib.Core.Path.{◌≡◌, refl, sym, ap, ap₂, ◌∙◌}
use mathlib.Core.Bool.{Bool, true, false}
use mathlib.Core.List.{List, [], ◌∷◌, ◌++◌}
use lib.ListN.{length, take, drop, length-map, length-append}
use lib.Seq.{length-take-le}
use lib.Dec.{ltb}
use native.Mathlib.Omega.{arith}
use borrow.Author.Tests.{ltb-false}
use Rattle.table.specs.Answer.{Answer, given, refused, refused_at, refuse_if, and_then, afterwards}
use Rattle.table.specs.Refusals.{turned_down}
use Rattle.table.specs.declared.refusals.Refusal.{Refusal}
use Rattle.table.proofs.AnswerLaws.{turned_first, turned_keeps, first_passes, second_given}
use Rattle.table.specs.Limits.{most_tokens}
use Rattle.table.proofs.Every.{both_false}
use Rattle.table.proofs.Words.{length_words}
use Rattle.grammar_file.specs.File.{Contents, contents, fields_of, node_table, rule_list, four_words, start_node, start_mode, fails6, file_answer, read_answer}
use Rattle.file_fields.specs.Fields.{Field, tagged}
use Rattle.token_words.specs.Places.{places}
use Rattle.token_words.specs.Scan.{tokens, token_words, words_of, scan_tokens, scan_answer, fails8, fails9, fails10}
use Rattle.well_formed.specs.Check.{check_answer}
use Rattle.line.specs.Line.{after_parts, parts_answer}
use Rattle.line.specs.Entries.{tokens_after}
use Rattle.line.specs.InternalParts.{Stands}

-- The front of what was written is what was written.
front : (w r : List ℕ) (n : ℕ) → length w ≡ n → take n (w ++ r) ≡ w
front [] r n e = rw (← e) refl
front (x ∷ w) r n e = rw (← e) (ap (λ (l : List ℕ). x ∷ l) (front w r (length w) refl))

-- Checks that did not refuse.
three : (a b c : Bool) (m n : ℕ) → given n ≡ refuse_if a 8 (refuse_if b 9 (refuse_if c 10 (given m))) → (c ≡ false) × (n ≡ m)
three true b c m n p = absurd (let z : ◌≡◌ {A = ℕ} 0 1 = cc in omega arith)
three false true c m n p = absurd (let z : ◌≡◌ {A = ℕ} 0 1 = cc in omega arith)
three false false true m n p = absurd (let z : ◌≡◌ {A = ℕ} 0 1 = cc in omega arith)
three false false false m n p = (refl, cc)

-- The scanner.
module _ (file report : List ℕ) (n room : ℕ) (e : given n ≡ scan_answer file report room) where
  scan_counts : (n * 4 ≤ room) × (length (words_of (scan_tokens file report)) ≡ n * 4) × (n ≡ length (scan_tokens file report)) × (n ≤ 4096)
  unfolding scan_answer fails10 tokens
  scan_counts =
      let next = refuse_if (fails8 report) 8 (refuse_if (fails9 report) 9 (refuse_if (fails10 report room) 10 (given (length (places report))))) in
      let s = three (fails8 report) (fails9 report) (fails10 report room) (length (places report)) n (second_given (file_answer file) next n e) in
      let b = both_false (ltb most_tokens (length (places report))) (ltb room (length (places report) * 4)) s.0 in
      let l = ltb-false room (length (places report) * 4) b.1 in
      let f = ltb-false most_tokens (length (places report)) b.0 in
      let w = length_words token_words (λ t. refl) (scan_tokens file report) in
      let k : length (scan_tokens file report) ≡ length (places report) = length-map (places report) _ in
      let q = s.1 in
      (omega arith, omega arith, omega arith, omega arith)

-- The file reader.
six : (c : Bool) (m x : Contents) → given x ≡ refuse_if c 6 (given m) → (c ≡ false) × (x ≡ m)
six true m x p = absurd (let z : ◌≡◌ {A = ℕ} 0 1 = cc in omega arith)
six false m x p = (refl, cc)

module _ (file : List ℕ) (x : Contents) (e : given x ≡ read_answer file 2048 128) where
  abbrev fs : List Field
  fs = fields_of file

  read_six : (fails6 fs 2048 128 ≡ false) × (x ≡ contents fs)
  unfolding read_answer
  read_six = six (fails6 fs 2048 128) (contents fs) x (second_given (file_answer file) (refuse_if (fails6 fs 2048 128) 6 (given (contents fs))) x e)

  pub record Reads : Type 0 where
    pub few_nodes : x.nodes * 4 ≤ 2048
    pub few_rules : x.rules ≤ 128
    pub all_nodes : length (node_table fs) ≡ x.nodes * 4
    pub all_rules : length (rule_list fs) ≡ x.rules
    pub node : x.start ≡ start_node fs
    pub mode_of : x.mode ≡ start_mode fs

  pub read_as : Reads
  unfolding fails6 contents node_table
  read_as =
      let q = both_false (ltb 2048 (length (node_table fs))) (ltb 128 (length (rule_list fs))) read_six.0 in
      let a = ltb-false 2048 (length (node_table fs)) q.0 in
      let b = ltb-false 128 (length (rule_list fs)) q.1 in
      let w : length (node_table fs) ≡ length (tagged 4 fs) * 4 = length_words four_words (λ f. refl) (tagged 4 fs) in
      let n : x.nodes ≡ length (node_table fs) / 4 = ap (λ (c : Contents). c.nodes) read_six.1 in
      let r : x.rules ≡ length (rule_list fs) = ap (λ (c : Contents). c.rules) read_six.1 in
      record {
        few_nodes = omega arith;
        few_rules = omega arith;
        all_nodes = omega arith;
        all_rules = sym r;
        node = ap (λ (c : Contents). c.start) read_six.1;
        mode_of = ap (λ (c : Contents). c.mode) read_six.1;
      }

-- The table and the rules of a file that was read into lent words.
pub record Tables (file : List ℕ) (x : Contents) (nodes rules : List ℕ) : Type 0 where
  pub passes : given x ≡ read_answer file 2048 128
  pub few : x.nodes * 4 ≤ 2048
  pub few_nodes : x.nodes * 4 ≤ length nodes
  pub few_rules : x.rules ≤ length rules
  pub nodes_are : take (x.nodes * 4) nodes ≡ node_table (fields_of file)
  pub rules_are : take x.rules rules ≡ rule_list (fields_of file)
  pub node_is : x.start ≡ start_node (fields_of file)
  pub mode_is : x.mode ≡ start_mode (fields_of file)

-- What was written in front of a list is there.
written_room : (w old : List ℕ) {n : ℕ} {after : List ℕ} → after ≡ w ++ drop (length w) old → length w ≡ n → n ≤ length after
written_room w old e d = omega (arith, ap length e, length-append w (drop (length w) old))

written_front : (w old : List ℕ) {n : ℕ} {after : List ℕ} → after ≡ w ++ drop (length w) old → length w ≡ n → take n after ≡ w
written_front w old {n} e d = rw e (front w (drop (length w) old) n d)

pub tables :
    (file old_nodes old_rules : List ℕ) {x : Contents} {nodes rules : List ℕ}
    → length old_nodes ≡ 2048
    → length old_rules ≡ 128
    → given x ≡ read_answer file (length old_nodes) (length old_rules)
    → nodes ≡ node_table (fields_of file) ++ drop (length (node_table (fields_of file))) old_nodes
    → rules ≡ rule_list (fields_of file) ++ drop (length (rule_list (fields_of file))) old_rules
    → Tables file x nodes rules
tables file old_nodes old_rules {x} a b e nodes_is rules_is =
    let passes : given x ≡ read_answer file 2048 128 = e ∙ ap₂ (read_answer file) a b in
    let read = read_as file x passes in
    record {
      passes = passes;
      few = read.few_nodes;
      few_nodes = written_room (node_table (fields_of file)) old_nodes nodes_is read.all_nodes;
      few_rules = written_room (rule_list (fields_of file)) old_rules rules_is read.all_rules;
      nodes_are = written_front (node_table (fields_of file)) old_nodes nodes_is read.all_nodes;
      rules_are = written_front (rule_list (fields_of file)) old_rules rules_is read.all_rules;
      node_is = read.node;
      mode_is = read.mode_of;
    }

turns_down : {A B : Type 0} {first : Answer B} (e : Refusal) (next : Answer A) → turned_down e ≡ first → turned_down e ≡ and_then first next
turns_down {B = B} e next d = sym (turned_first B e next) ∙ ap (λ a. and_then a next) d

-- The check and the scan behind it.
module _ {file : List ℕ} {x : Contents} {nodes rules : List ℕ} (h : Tables file x nodes rules) (report : List ℕ) (room : ℕ) where
  after_read : {v : Answer Unit} → v ≡ and_then (check_answer (node_table (fields_of file)) (rule_list (fields_of file))) (and_then (scan_answer file report room) (given tt))
      → v ≡ parts_answer file report room
  unfolding after_parts
  after_read d = d ∙ first_passes _ h.passes

  checked_as :
      {v : Answer Unit}
      → v ≡ check_answer (take (x.nodes * 4) nodes) (take x.rules rules)
      → v ≡ check_answer (node_table (fields_of file)) (rule_list (fields_of file))
  checked_as d = d ∙ ap₂ check_answer h.nodes_are h.rules_are

  pub check_refuses : (e : Refusal) → turned_down e ≡ check_answer (take (x.nodes * 4) nodes) (take x.rules rules) → turned_down e ≡ parts_answer file report room
  check_refuses e d = after_read (turns_down e _ (checked_as d))

  module _ (d : given tt ≡ check_answer (take (x.nodes * 4) nodes) (take x.rules rules)) where
    pub scan_refuses : (e : Refusal) → turned_down e ≡ scan_answer file report room → turned_down e ≡ parts_answer file report room
    scan_refuses e q = after_read (turns_down e _ q ∙ first_passes _ (checked_as d))

    scan_passes : {n : ℕ} → given n ≡ scan_answer file report room → given tt ≡ parts_answer file report room
    scan_passes q = after_read (first_passes (given tt) q ∙ first_passes _ (checked_as d))

    pub all_stand :
        (old : List ℕ) {n : ℕ} {after : List ℕ}
        → given n ≡ scan_answer file report room
        → after ≡ words_of (scan_tokens file report) ++ drop (length (words_of (scan_tokens file report))) old
        → Stands file report room (record { nodes = x.nodes; rules = x.rules; tokens = n; node = x.start; mode = x.mode }) nodes rules after
    all_stand old {n} q w =
        let s = scan_counts file report n room q in
        record {
          passes = scan_passes q;
          few = h.few;
          few_nodes = h.few_nodes;
          few_rules = h.few_rules;
          most = s.3;
          few_tokens = written_room (words_of (scan_tokens file report)) old w s.1;
          nodes_are = h.nodes_are;
          rules_are = h.rules_are;
          tokens_are = written_front (words_of (scan_tokens file report)) old w s.1;
          counted = s.2;
          node_is = h.node_is;
          mode_is = h.mode_is;
        }

-- The parts by themselves, before what follows them.
pub read_refuses :
    (file report : List ℕ) (room : ℕ) {a b : ℕ} (e : Refusal)
    → a ≡ 2048
    → b ≡ 128
    → turned_down e ≡ read_answer file a b
    → turned_down e ≡ parts_answer file report room
unfolding after_parts
read_refuses file report room e p q d = turns_down e _ (d ∙ ap₂ (read_answer file) p q)

and_then_assoc : {A B C : Type 0} (a : Answer C) (b : Answer B) (next : Answer A) → and_then a (and_then b next) ≡ and_then (and_then a b) next
and_then_assoc (given x) b next = refl
and_then_assoc (refused n) b next = refl
and_then_assoc (refused_at n k) b next = refl

-- What follows them.
module _ {A : Type 0} (file report : List ℕ) (room : ℕ) (next : Answer A) where
  pub behind_parts : and_then (parts_answer file report room) next ≡ after_parts file report room next
  unfolding after_parts
  behind_parts =
      let table = check_answer (node_table (fields_of file)) (rule_list (fields_of file)) in
      let scanned = scan_answer file report room in
      sym
      (ap (λ a. and_then (read_answer file 2048 128) (and_then table a)) (and_then_assoc scanned (given tt) next)
      ∙ ap (and_then (read_answer file 2048 128)) (and_then_assoc table (and_then scanned (given tt)) next)
      ∙ and_then_assoc (read_answer file 2048 128) (and_then table (and_then scanned (given tt))) next)

  pub parts_refuse : (e : Refusal) → turned_down e ≡ parts_answer file report room → turned_down e ≡ after_parts file report room next
  parts_refuse e d = turns_down e next d ∙ behind_parts

  pub parts_pass : given tt ≡ parts_answer file report room → next ≡ after_parts file report room next
  parts_pass d = ap (λ (a : Answer Unit). and_then a next) d ∙ behind_parts

-- The words lent for the tokens.
module _ (file report before : List ℕ) where
  pub unwritten : (e : Refusal) → turned_down e ≡ parts_answer file report (length before) → before ≡ tokens_after file report before
  unfolding tokens_after
  unwritten e d = sym (turned_keeps Unit e (words_of (scan_tokens file report)) before) ∙ ap (λ (a : Answer Unit). afterwards a (words_of (scan_tokens file report)) before) d

  pub written : {after : List ℕ} → given tt ≡ parts_answer file report (length before)
      → after ≡ words_of (scan_tokens file report) ++ drop (length (words_of (scan_tokens file report))) before
      → after ≡ tokens_after file report before
  unfolding tokens_after
  written e d = d ∙ ap (λ (a : Answer Unit). afterwards a (words_of (scan_tokens file report)) before) e

-- The length of a part in front.
pub front_length : (n : ℕ) (l : List ℕ) → n ≤ length l → n ≡ length (take n l)
front_length n l h = sym (length-take-le n l h)
