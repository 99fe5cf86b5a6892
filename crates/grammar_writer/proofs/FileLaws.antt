-- The written file, section by section: tag 1, the keywords, the rules, the nodes, the start.
use Prim.Native.Nat.{ℕ, ◌+◌, ◌*◌, ◌≤◌}
use mathlib.Core.Path.{◌≡◌, refl, sym, ap, ap₂, ◌∙◌}
use mathlib.Core.List.{List, [], ◌∷◌, ◌++◌, append_assoc, append-nil}
use native.Mathlib.Omega.{arith}
use lib.ListN.{length, get_or, length-append}
use Rattle.table.specs.Words.{each_words}
use Rattle.table.specs.Limits.{most_nodes, most_rules}
use Rattle.table.specs.Form.{node_count}
use Rattle.table.proofs.Words.{words_append}
use Rattle.file_fields.specs.Fields.{Field}
use Rattle.file_fields.specs.Offsets.{spellings_from}
use Rattle.file_fields.proofs.Offsets.{length_spellings}
use Rattle.file_shape.specs.Contents.{most_keywords}
use Rattle.file_shape.specs.declared.Shape.{Shape}
use Rattle.file_shape.proofs.PartLaws.{keywords_are, names_are}
use Rattle.slices.specs.Copied.{over}
use Rattle.grammar_writer.specs.FieldBytes.{number_bytes, field, field_bytes, bytes_of, format_field, start_field}
use Rattle.grammar_writer.specs.Written.{keyword_fields, rule_fields, node_fields, written_fields, written_file}
use Rattle.grammar_writer.specs.InternalWriting.{Lends}
use Rattle.grammar_writer.proofs.PutLaws.{Over, over_starts, over_more}
use Rattle.grammar_writer.proofs.SectionLaws.{spelling_short, keywords_short, rules_short, nodes_short}
use Rattle.grammar_writer.proofs.LendLaws.{keywords_right, names_right, few_keywords, few_nodes}

-- The bytes of the fields in their order.
fields_bytes : (f s : Field) (ks rs ns : List Field) → bytes_of (f ∷ (ks ++ rs ++ ns ++ (s ∷ []))) ≡ field_bytes f ++ bytes_of ks ++ bytes_of rs ++ bytes_of ns ++ field_bytes s
unfolding each_words
fields_bytes f s ks rs ns =
    ap (λ (l : List ℕ). field_bytes f ++ l)
    (words_append field_bytes (ks ++ rs ++ ns) (s ∷ [])
    ∙ ap₂ ◌++◌
    (words_append field_bytes (ks ++ rs) ns ∙ ap (λ (l : List ℕ). l ++ bytes_of ns) (words_append field_bytes ks rs))
    (append-nil (field_bytes s)))
    ∙ simp append_assoc

-- No written file is longer: tag 1's 4 bytes, 253 keywords of 35, 128 rules of 37, 512 nodes of 9 and the start's 6.
module _ (words names : List (List ℕ)) (nodes rules : List ℕ) (node mode : ℕ) where
  pub longest :
      ((k : ℕ) → length (get_or words k []) ≤ 32)
      → ((k : ℕ) → length (get_or names k []) ≤ 32)
      → length words ≤ most_keywords
      → node_count nodes ≤ most_nodes
      → length rules ≤ most_rules
      → length (bytes_of (written_fields words names nodes rules node mode)) ≤ 18209
  unfolding each_words field_bytes
  longest a b ks ns rs =
      let all : length (bytes_of (written_fields words names nodes rules node mode))
      ≡ 4 + length (bytes_of (keyword_fields words)) + length (bytes_of (rule_fields rules names)) + length (bytes_of (node_fields nodes)) + 6 =
      simp (words_append, length-append) (omega arith) in
      omega (arith, all, keywords_short words a, rules_short rules names b, nodes_short nodes)

module _ {lending nodes rules : List ℕ} {s : Shape} {node mode : ℕ} (h : Lends lending s nodes rules node mode) (e : length rules ≡ s.rules.count) where
  abbrev pub Format : List ℕ
  Format = field_bytes format_field

  abbrev pub Keywords : List ℕ
  Keywords = bytes_of (keyword_fields (spellings_from lending 4 s.keywords 0))

  abbrev pub Rules : List ℕ
  Rules = bytes_of (rule_fields rules (spellings_from lending s.rules.at (length rules) 2))

  abbrev pub Nodes : List ℕ
  Nodes = bytes_of (node_fields nodes)

  abbrev Start : List ℕ
  Start = field_bytes (start_field node mode)

  pub sections : Format ++ Keywords ++ Rules ++ Nodes ++ Start ≡ written_file lending nodes rules node mode
  unfolding written_file
  sections =
      let words = keywords_are lending s h.parts in
      let names = names_are lending s h.parts ∙ ap (λ (k : ℕ). spellings_from lending s.rules.at k 2) (sym e) in
      sym
      (ap₂ (λ (ws ns : List (List ℕ)). bytes_of (written_fields ws ns nodes rules node mode)) words names
      ∙ fields_bytes format_field (start_field node mode) (keyword_fields (spellings_from lending 4 s.keywords 0))
      (rule_fields rules (spellings_from lending s.rules.at (length rules) 2)) (node_fields nodes))

  short_keywords : length Keywords ≤ s.keywords * 35
  short_keywords =
      let words = spellings_from lending 4 s.keywords 0 in
      omega (arith, keywords_short words (spelling_short words (keywords_right h)), length_spellings lending 4 s.keywords 0)

  short_rules : length Rules ≤ length rules * 37
  short_rules = let names = spellings_from lending s.rules.at (length rules) 2 in rules_short rules names (spelling_short names (names_right h e))

  short_nodes : length Nodes ≤ node_count nodes * 9
  short_nodes = nodes_short nodes

  format_long : length Format ≡ 4
  unfolding field_bytes
  format_long = refl

  start_long : length Start ≡ 6
  unfolding field_bytes
  start_long = refl

  -- Each section fits behind those before it.
  module _ (old : List ℕ) (big : 18209 ≤ length old) where
    pub format_put : {a : ℕ} {out : List ℕ} → a ≡ 0 + length Format → out ≡ over 0 Format old → Over 0 old Format a out
    format_put x y = over_more 0 old (over_starts 0 old) Format (omega (arith, format_long)) x y

    module _ {a : ℕ} {out : List ℕ} (p : Over 0 old Format a out) where
      pub keywords_fit : a + s.keywords * 35 ≤ length out
      keywords_fit = omega (arith, p.ends, p.same, format_long, few_keywords h)

      pub keywords_put : {b : ℕ} {next : List ℕ} → b ≡ a + length Keywords → next ≡ over a Keywords out → Over 0 old (Format ++ Keywords) b next
      keywords_put x y = over_more 0 old p Keywords (omega (arith, keywords_fit, short_keywords, p.same)) x y

    module _ {a : ℕ} {out : List ℕ} (p : Over 0 old (Format ++ Keywords) a out) where
      pub rules_fit : a + length rules * 37 ≤ length out
      rules_fit = omega (arith, p.ends, p.same, length-append Format Keywords, format_long, short_keywords, few_keywords h, (few_nodes h).1)

      pub rules_put : {b : ℕ} {next : List ℕ} → b ≡ a + length Rules → next ≡ over a Rules out → Over 0 old (Format ++ Keywords ++ Rules) b next
      rules_put x y = over_more 0 old p Rules (omega (arith, rules_fit, short_rules, p.same)) x y

    module _ {a : ℕ} {out : List ℕ} (p : Over 0 old (Format ++ Keywords ++ Rules) a out) where
      pub nodes_fit : a + node_count nodes * 9 ≤ length out
      nodes_fit =
          omega (
            arith,
            p.ends,
            p.same,
            length-append (Format ++ Keywords) Rules,
            length-append Format Keywords,
            format_long,
            short_keywords,
            few_keywords h,
            short_rules,
            (few_nodes h).0,
            (few_nodes h).1,
          )

      pub nodes_put : {b : ℕ} {next : List ℕ} → b ≡ a + length Nodes → next ≡ over a Nodes out → Over 0 old (Format ++ Keywords ++ Rules ++ Nodes) b next
      nodes_put x y = over_more 0 old p Nodes (omega (arith, nodes_fit, short_nodes, p.same)) x y

    module _ {a : ℕ} {out : List ℕ} (p : Over 0 old (Format ++ Keywords ++ Rules ++ Nodes) a out) where
      pub start_fits : a + 6 ≤ length out
      start_fits =
          omega (
            arith,
            p.ends,
            p.same,
            length-append (Format ++ Keywords ++ Rules) Nodes,
            length-append (Format ++ Keywords) Rules,
            length-append Format Keywords,
            format_long,
            short_keywords,
            few_keywords h,
            short_rules,
            short_nodes,
            (few_nodes h).0,
            (few_nodes h).1,
          )

      pub start_put : {start : List ℕ} → start ≡ number_bytes node → {b : ℕ} {next : List ℕ}
          → b ≡ a + length (field_bytes (field 5 (start ++ (mode ∷ []))))
          → next ≡ over a (field_bytes (field 5 (start ++ (mode ∷ [])))) out
          → Over 0 old (written_file lending nodes rules node mode) b next
      start_put x {b} {next} e n =
          let more = over_more 0 old p Start {m = b} {next = next} (omega (arith, start_fits, start_long, p.same)) (rw x at e) (rw x at n) in
          rw (sym sections) more
