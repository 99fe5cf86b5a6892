-- A file that is read and written again, with itself as the lending file, is the same file, byte for byte. A call that writes
-- it needs as many bytes as it has, and is refused by 6 where fewer are lent.
use Prim.Native.Nat.{ℕ, zero, suc, ◌+◌, ◌*◌, ◌≤◌, ◌<◌}
use mathlib.Core.Path.{◌≡◌, refl, sym, ap, ap₂, subst, ◌∙◌}
use mathlib.Core.Bool.{true}
use mathlib.Core.List.{List, [], ◌∷◌, ◌++◌}
use native.Mathlib.Omega.{arith}
use borrow.Author.Tests.{le-ltb, lt-ltb}
use lib.ListN.{length, take, drop}
use lib.Seq.{get_or-append-add, take_at}
use lib.Dec.{ltb}
use Rattle.table.specs.Answer.{Answer, given, refused, refuse_if, afterwards}
use Rattle.table.specs.Form.{node_count}
use Rattle.table.specs.Words.{each_words}
use Rattle.table.proofs.Inside.{counts_inside}
use Rattle.file_fields.specs.Fields.{Field}
use Rattle.file_shape.specs.declared.Contents.{Contents}
use Rattle.file_shape.specs.Contents.{right_value, keywords, rule_list, rule_names, node_table, start_node, start_mode, fields_of}
use Rattle.file_shape.specs.Contents.{contents, file_answer}
use Rattle.grammar_file.specs.File.{fails6, read_answer}
use Rattle.grammar_writer.specs.FieldBytes.{field_bytes, bytes_of}
use Rattle.grammar_writer.specs.Written.{written_fields, written_file, write_answer}
use Rattle.written_files.specs.Bytes.{are_bytes}
use Rattle.written_files.proofs.FieldsBack.{Bytes, each_byte, bytes_back}
use Rattle.written_files.proofs.Tabulated.{Each, each_both}
use Rattle.grammar_writer.proofs.LendLaws.{Started, table_right}
use Rattle.written_files.proofs.Passed.{Right, passes_right, lent_writes}
use Rattle.written_files.proofs.Tags.{values_each}
use Rattle.written_files.proofs.SameFields.{Sound, same_fields}

-- Bytes in front, and bytes behind.
bytes_front : (xs ys : List ℕ) → Bytes (xs ++ ys) → Bytes xs
bytes_front [] ys b i = omega arith
bytes_front (x ∷ xs) ys b zero = b zero
bytes_front (x ∷ xs) ys b (suc i) = bytes_front xs ys (λ j. b (suc j)) i

bytes_behind : (xs ys : List ℕ) → Bytes (xs ++ ys) → Bytes ys
bytes_behind xs ys b i = rw get_or-append-add at (b (length xs + i))

-- The values of fields whose bytes are bytes.
values_bytes : (fs : List Field) → Bytes (bytes_of fs) → Each (λ f. Bytes f.value) fs
unfolding each_words field_bytes
values_bytes [] b = tt
values_bytes (f ∷ fs) b =
    let behind : Bytes (f.value ++ bytes_of fs) = λ i. b (suc (suc (suc i))) in
    (bytes_front f.value (bytes_of fs) behind, values_bytes fs (bytes_behind f.value (bytes_of fs) behind))

module _ (file : List ℕ) (bytes : are_bytes file ≡ true) (c : Contents) (read : file_answer file ≡ given c) where
  abbrev fs : List Field
  fs = fields_of file

  abbrev nodes : List ℕ
  nodes = node_table fs

  abbrev rules : List ℕ
  rules = rule_list fs

  right : Right file
  right = (passes_right file c read).0

  told : contents fs ≡ c
  told = (passes_right file c read).1

  same_bytes : bytes_of fs ≡ file
  same_bytes = bytes_back file fs bytes right.whole

  sound : Each Sound fs
  sound =
      each_both (λ f. right_value f ≡ true) (λ f. Bytes f.value) fs (values_each fs right.framed.values)
      (values_bytes fs (rw same_bytes (each_byte file bytes)))

  -- Writing what was read, with the same file lending names, is that file, byte for byte.
  pub same_file : written_file file nodes rules c.start c.mode ≡ file
  unfolding written_file contents
  same_file =
      ap (λ (d : Contents). bytes_of (written_fields (keywords fs) (rule_names fs) nodes rules d.start d.mode)) (sym told)
      ∙ ap bytes_of (same_fields fs right.framed.ordered sound)
      ∙ same_bytes

  writes : (lent : ℕ) → write_answer file nodes rules c.start c.mode lent ≡ refuse_if (ltb lent (length file)) 6 (given (length file))
  unfolding contents
  writes lent =
      lent_writes file nodes rules c.start c.mode lent
      (record {
        lends = right;
        started = subst (λ (d : Contents). Started nodes rules d.start d.mode) told right.started;
        counted = refl;
      })
      ∙ ap (λ (l : List ℕ). refuse_if (ltb lent (length l)) 6 (given (length l))) same_file

  -- With room for the file, the call that writes it answers its length.
  pub writes_back : (lent : ℕ) → length file ≤ lent → write_answer file nodes rules c.start c.mode lent ≡ given (length file)
  writes_back lent h = writes lent ∙ rw (le-ltb lent (length file) h) refl

  -- Without, it is refused by 6.
  pub writes_short : (lent : ℕ) → lent < length file → write_answer file nodes rules c.start c.mode lent ≡ refused 6
  writes_short lent h = writes lent ∙ rw (lt-ltb lent (length file) h) refl

  -- A read into lent words that have room, and a write of the words that it filled.
  module _ (n₀ r₀ : List ℕ) (n_room : length nodes ≤ length n₀) (r_room : length rules ≤ length r₀) where
    abbrev answer : Answer Contents
    answer = read_answer file (length n₀) (length r₀)

    -- The read answers what the check of the file did.
    pub reads : answer ≡ given c
    unfolding read_answer fails6
    reads = rw (read, le-ltb (length n₀) (length nodes) n_room, le-ltb (length r₀) (length rules) r_room) (ap given told)

    front : (words before : List ℕ) (k : ℕ) → length words ≡ k → take k (afterwards answer words before) ≡ words
    front words before k e =
        ap (λ (a : Answer Contents). take k (afterwards a words before)) reads
        ∙ take_at words (drop (length words) before) k e

    -- The words filled for the nodes are the table.
    pub nodes_filled : take (c.nodes * 4) (afterwards answer nodes n₀) ≡ nodes
    unfolding contents
    nodes_filled =
        let counts = counts_inside nodes rules (table_right nodes rules (start_node fs) (start_mode fs) right.started) in
        let k : node_count nodes ≡ c.nodes = ap (λ (d : Contents). d.nodes) told in
        front nodes n₀ (c.nodes * 4) (omega (arith, counts.0))

    -- Those filled for the rules are the rule list.
    pub rules_filled : take c.rules (afterwards answer rules r₀) ≡ rules
    unfolding contents
    rules_filled = front rules r₀ c.rules (ap (λ (d : Contents). d.rules) told)

    -- So a read and a write give the file back.
    pub read_then_written : written_file file (take (c.nodes * 4) (afterwards answer nodes n₀)) (take c.rules (afterwards answer rules r₀)) c.start c.mode ≡ file
    read_then_written = ap₂ (λ (t l : List ℕ). written_file file t l c.start c.mode) nodes_filled rules_filled ∙ same_file

    -- A write of the words that the read filled answers the length of the file, and leaves the file in the lent bytes and what
    -- was behind it.
    pub read_then_writes :
        (out : List ℕ)
        → length file ≤ length out
        → let n = take (c.nodes * 4) (afterwards answer nodes n₀) in
        let r = take c.rules (afterwards answer rules r₀) in
        let wrote = write_answer file n r c.start c.mode (length out) in
        (wrote ≡ given (length file)) × (afterwards wrote (written_file file n r c.start c.mode) out ≡ file ++ drop (length file) out)
    read_then_writes out h =
        let told = ap₂ (λ (t l : List ℕ). write_answer file t l c.start c.mode (length out)) nodes_filled rules_filled ∙ writes_back (length out) h in
        (told, ap₂ (λ (a : Answer ℕ) (f : List ℕ). afterwards a f out) told read_then_written)
