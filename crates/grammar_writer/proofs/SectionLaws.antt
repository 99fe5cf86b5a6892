-- The fields of a tag as they are put: what each is, and how long.
use Prim.Native.Nat.{ℕ, ◌+◌, ◌*◌, ◌/◌, ◌%◌, ◌≤◌, ◌<◌}
use mathlib.Core.Path.{◌≡◌, refl, sym, ap, ap₂, ◌∙◌}
use mathlib.Core.Bool.{true, ◌&&◌}
use mathlib.Core.Logic.{⊎_elim}
use mathlib.Core.List.{List, [], ◌∷◌, ◌++◌}
use native.Mathlib.Omega.{arith}
use borrow.Author.Tests.{leb-true}
use lib.ListN.{length, get_or, drop, get_or-eq_default}
use lib.Dec.{leb}
use Rattle.std.specs.Int.{w16, to_be_bytes}
use Rattle.table.specs.Every.{every}
use Rattle.table.specs.Form.{kind_of, a_of, b_of, relation_of, node_count, stands_for}
use Rattle.table.proofs.Every.{and_left, and_right, every_at}
use Rattle.table.proofs.Orders.{le_or_lt}
use Rattle.spellings.specs.Spellings.{visible, spelled, distinct, right_spellings}
use Rattle.file_fields.specs.Fields.{Field}
use Rattle.file_fields.specs.Offsets.{value_at, offset_of, spellings_from}
use Rattle.file_fields.proofs.Offsets.{spelling_from}
use Rattle.grammar_writer.specs.FieldBytes.{number_bytes, field, field_bytes, bytes_of, keyword_field, rule_field, node_field}
use Rattle.grammar_writer.specs.Written.{keyword_fields, rule_fields, node_fields}
use Rattle.grammar_writer.proofs.PutLaws.{length_field, bytes_within, Put, Next, next_field}

-- A right spelling has at most 32 bytes, and so has one that is not there.
pub spelling_short : (words : List (List ℕ)) → right_spellings words ≡ true → (k : ℕ) → length (get_or words k []) ≤ 32
unfolding right_spellings spelled
spelling_short words e k =
    ⊎_elim
    (λ h. rw (get_or-eq_default words [] h) (omega arith))
    (λ h.
    let s = get_or words k [] in
    leb-true (length s) 32
    (and_right (leb 1 (length s)) (leb (length s) 32)
    (and_left (leb 1 (length s) && leb (length s) 32) (every (length s) (λ i. visible (get_or s i 0)))
    (every_at (length words) (λ i. spelled (get_or words i [])) (and_left (every (length words) (λ i. spelled (get_or words i []))) (distinct words) e) k h))))
    (le_or_lt (length words) k)

-- The spelling of the kth of some fields from an offset on, as it stands in the file.
module _ (file : List ℕ) (first count skip : ℕ) where
  pub spelling_is : {k at : ℕ} {w : List ℕ} → k < count → at ≡ offset_of file first k → w ≡ drop skip (value_at file at) → w ≡ get_or (spellings_from file first count skip) k []
  spelling_is {k} h e d = d ∙ ap (λ (n : ℕ). drop skip (value_at file n)) e ∙ sym (spelling_from file first count skip k h)

-- Tag 2: the kth of some keywords.
abbrev pub keyword_of : List (List ℕ) → ℕ → Field
keyword_of words k = keyword_field (get_or words k [])

-- Tag 3: the rth of some rules, with its name.
abbrev pub rule_of : List ℕ → List (List ℕ) → ℕ → Field
rule_of rules names r = rule_field (stands_for rules r) (get_or names r [])

-- Tag 4: the nth node.
abbrev pub node_of : List ℕ → ℕ → Field
node_of nodes n = node_field (kind_of nodes n) (a_of nodes n) (b_of nodes n) (relation_of nodes n)

-- The two bytes of a number.
pub two_bytes_are : (n : ℕ) → n < 65536 → to_be_bytes w16 n ≡ number_bytes n
two_bytes_are n h = let high : n / 256 % 256 ≡ n / 256 = omega arith in ap (λ (x : ℕ). x ∷ n % 256 ∷ []) high

pub node_is :
    (nodes : List ℕ) (n : ℕ) {ah al bh bl : ℕ}
    → ah ≡ a_of nodes n / 256
    → al ≡ a_of nodes n % 256
    → bh ≡ b_of nodes n / 256
    → bl ≡ b_of nodes n % 256
    → node_of nodes n ≡ field 4 ((kind_of nodes n ∷ ah ∷ al ∷ []) ++ (bh ∷ bl ∷ relation_of nodes n ∷ []))
node_is nodes n a b c d = rw (a, b, c, d) refl

-- How long the fields are, and all of them together.
module _ (words : List (List ℕ)) (short : (k : ℕ) → length (get_or words k []) ≤ 32) where
  pub keyword_short : (k : ℕ) → length (field_bytes (keyword_of words k)) ≤ 35
  keyword_short k = omega (arith, length_field 2 [] (get_or words k []), short k)

  pub keywords_short : length (bytes_of (keyword_fields words)) ≤ length words * 35
  keywords_short = bytes_within (keyword_of words) 35 (length words) (λ k h. keyword_short k)

module _ (rules : List ℕ) (names : List (List ℕ)) (short : (k : ℕ) → length (get_or names k []) ≤ 32) where
  pub rule_short : (r : ℕ) → length (field_bytes (rule_of rules names r)) ≤ 37
  rule_short r = omega (arith, length_field 3 (number_bytes (stands_for rules r)) (get_or names r []), short r)

  pub rules_short : length (bytes_of (rule_fields rules names)) ≤ length rules * 37
  rules_short = bytes_within (rule_of rules names) 37 (length rules) (λ r h. rule_short r)

module _ (nodes : List ℕ) where
  pub node_short : (n : ℕ) → length (field_bytes (node_of nodes n)) ≤ 9
  unfolding field_bytes
  node_short n = omega arith

  pub nodes_short : length (bytes_of (node_fields nodes)) ≤ node_count nodes * 9
  nodes_short = bytes_within (node_of nodes) 9 (node_count nodes) (λ n h. node_short n)

-- The next field of each section.
module _ {to : ℕ} {old : List ℕ} {end : ℕ} {out : List ℕ} where
  pub next_keyword : (file : List ℕ) (count k : ℕ) {at : ℕ} {w : List ℕ} → right_spellings (spellings_from file 4 count 0) ≡ true → to + count * 35 ≤ length old
      → Put (keyword_of (spellings_from file 4 count 0)) to old k end out → k < count → at ≡ offset_of file 4 k → w ≡ drop 0 (value_at file at)
      → Next (keyword_of (spellings_from file 4 count 0)) to old k end out 2 [] w
  next_keyword file count k {w = w} right room p h e q =
      let words = spellings_from file 4 count 0 in
      next_field (keyword_of words) to old k p 35 count (omega arith) (keyword_short words (spelling_short words right)) h room 2 [] w
      (ap keyword_field (sym (spelling_is file 4 count 0 h e q)))

  pub next_rule : (file : List ℕ) (first : ℕ) (rules : List ℕ) (r : ℕ) {at : ℕ} {head w : List ℕ}
      → right_spellings (spellings_from file first (length rules) 2) ≡ true → to + length rules * 37 ≤ length old
      → Put (rule_of rules (spellings_from file first (length rules) 2)) to old r end out → r < length rules → at ≡ offset_of file first r
      → w ≡ drop 2 (value_at file at) → head ≡ number_bytes (stands_for rules r)
      → Next (rule_of rules (spellings_from file first (length rules) 2)) to old r end out 3 head w
  next_rule file first rules r {head = head} {w = w} right room p h e q b =
      let names = spellings_from file first (length rules) 2 in
      next_field (rule_of rules names) to old r p 37 (length rules) (omega arith) (rule_short rules names (spelling_short names right)) h room 3 head w
      (ap₂ (λ (x y : List ℕ). field 3 (x ++ y)) (sym b) (sym (spelling_is file first (length rules) 2 h e q)))

  pub next_node : (nodes : List ℕ) (n : ℕ) {ah al bh bl : ℕ} → to + node_count nodes * 9 ≤ length old
      → Put (node_of nodes) to old n end out → n < node_count nodes
      → ah ≡ a_of nodes n / 256 → al ≡ a_of nodes n % 256 → bh ≡ b_of nodes n / 256 → bl ≡ b_of nodes n % 256
      → Next (node_of nodes) to old n end out 4 (kind_of nodes n ∷ ah ∷ al ∷ []) (bh ∷ bl ∷ relation_of nodes n ∷ [])
  next_node nodes n room p h a b c d =
      next_field (node_of nodes) to old n p 9 (node_count nodes) (omega arith) (node_short nodes) h room 4 _ _ (node_is nodes n a b c d)
