-- The checks that a file passes, each by itself: a file is read exactly if it passes them. And the checks of a call that writes:
-- where it answers, the lending file and the tables pass theirs, and where they do, only 6 is left.
use Prim.Native.Nat.{ℕ, ◌≤◌}
use mathlib.Core.Path.{◌≡◌, refl, ap, ap₂, ◌∙◌}
use mathlib.Core.Bool.{true, false, not, ◌||◌, true≢false}
use mathlib.Core.List.{List, []}
use mathlib.Core.Option.{Option, some, none, get_or}
use native.Mathlib.Omega.{arith}
use borrow.Author.Tests.{le-ltb, ltb-false, eq-eqb, eqb-true, not-false}
use lib.ListN.{length}
use lib.Dec.{ltb}
use Rattle.table.specs.Answer.{Answer, given, refused, refused_at, refuse_if, and_then}
use Rattle.table.specs.Checks.{fails3, fails4}
use Rattle.table.proofs.Every.{both_false}
use Rattle.table.proofs.AnswerLaws.{if_given}
use Rattle.file_fields.specs.Fields.{Field, fields, in_order}
use Rattle.file_shape.specs.declared.Contents.{Contents}
use Rattle.file_shape.specs.Contents.{most_bytes, most_keywords, right_values, keywords, rule_list, node_table, start_node, start_mode, fields_of}
use Rattle.file_shape.specs.Contents.{unreadable, fails1, fails2, fails5_with, fails5_by_file, contents, file_answer}
use Rattle.grammar_writer.specs.Written.{written_file, fails15, write_answer}
use Rattle.grammar_writer.proofs.LendLaws.{Started, table_passed}

-- Fields pass 1 and 2.
pub record Framed (fs : List Field) : Type 0 where
  pub ordered : in_order fs ≡ true
  pub values : right_values fs ≡ true
  pub few : length (keywords fs) ≤ most_keywords
  pub names : fails2 fs ≡ false

-- A file passes 1 to 5.
pub record Right (file : List ℕ) : Type 0 where
  pub short : length file ≤ most_bytes
  pub whole : fields file ≡ some (fields_of file)
  pub framed : Framed (fields_of file)
  pub started : Started (node_table (fields_of file)) (rule_list (fields_of file)) (start_node (fields_of file)) (start_mode (fields_of file))

-- A part before an answer that is given passed.
first_given : {A B : Type 0} (first : Answer B) (next : Answer A) (x : A) → and_then first next ≡ given x → ((b : B) × (first ≡ given b)) × (next ≡ given x)
first_given (given b) next x e = ((b, refl), e)
first_given (refused number) next x e = absurd (let z : ◌≡◌ {A = ℕ} 0 1 = cc in omega arith)
first_given (refused_at number node) next x e = absurd (let z : ◌≡◌ {A = ℕ} 0 1 = cc in omega arith)

-- Three checks that pass.
table_passes :
    {A : Type 0} (nodes rules : List ℕ) (node mode : ℕ) (next : Answer A)
    → Started nodes rules node mode
    → refuse_if (fails3 nodes rules) 3 (refuse_if (fails4 nodes rules) 4 (refuse_if (fails5_with nodes rules node mode) 5 next)) ≡ next
table_passes nodes rules node mode next s = rw (s.three, s.four, s.five) refl

-- What number 1 asks of the fields.
readable : (o : Option (List Field)) → unreadable o ≡ false → fails2 (get_or o []) ≡ false → (o ≡ some (get_or o [])) × Framed (get_or o [])
unfolding unreadable
readable none e n = absurd (true≢false e)
readable (some fs) e n =
    let p = both_false (not (in_order fs) || not (right_values fs)) (ltb most_keywords (length (keywords fs))) e in
    let q = both_false (not (in_order fs)) (not (right_values fs)) p.0 in (
      refl,
      record {
        ordered = not-false (in_order fs) q.0;
        values = not-false (right_values fs) q.1;
        few = ltb-false most_keywords (length (keywords fs)) p.1;
        names = n;
      },
    )

-- A file that is read is right, and its contents are told.
pub passes_right : (file : List ℕ) (c : Contents) → file_answer file ≡ given c → Right file × (contents (fields_of file) ≡ c)
unfolding file_answer fails1 fails5_by_file
passes_right file c e =
    let fs = fields_of file in
    let p = if_given (fails1 file) 1 _ e in
    let q = if_given (fails2 fs) 2 _ p.1 in
    let r = table_passed (node_table fs) (rule_list fs) (start_node fs) (start_mode fs) _ c q.1 in
    let l = both_false (ltb most_bytes (length file)) (unreadable (fields file)) p.0 in
    let o = readable (fields file) l.1 q.0 in
    let told = r.1 in (
      record { short = ltb-false most_bytes (length file) l.0; whole = o.0; framed = o.1; started = r.0 },
      cc,
    )

module _ (file : List ℕ) (r : Right file) where
  readable_fields : unreadable (some (fields_of file)) ≡ false
  unfolding unreadable
  readable_fields =
      rw (r.framed.ordered, r.framed.values, le-ltb most_keywords (length (keywords (fields_of file))) r.framed.few) refl

  first_passes : fails1 file ≡ false
  unfolding fails1
  first_passes = ap₂ ◌||◌ (le-ltb most_bytes (length file) r.short) (ap unreadable r.whole ∙ readable_fields)

  -- A right file is read.
  pub right_passes : file_answer file ≡ given (contents (fields_of file))
  unfolding file_answer fails5_by_file
  right_passes =
      let fs = fields_of file in
      rw (first_passes, r.framed.names)
      (table_passes (node_table fs) (rule_list fs) (start_node fs) (start_mode fs) (given (contents fs)) r.started)

-- What a writer that gives an answer was lent: a right file, and tables and a start that pass, with as many rules as the file's.
pub record Lent (lending nodes rules : List ℕ) (node mode : ℕ) : Type 0 where
  pub lends : Right lending
  pub started : Started nodes rules node mode
  pub counted : length rules ≡ length (rule_list (fields_of lending))

module _ (lending nodes rules : List ℕ) (node mode lent : ℕ) where
  abbrev file : List ℕ
  file = written_file lending nodes rules node mode

  -- Its answer is the length of the file.
  pub writes_lent : (n : ℕ) → write_answer lending nodes rules node mode lent ≡ given n → Lent lending nodes rules node mode × (length file ≡ n)
  unfolding write_answer fails15
  writes_lent n e =
      let p = first_given (file_answer lending) _ n e in
      let q = table_passed nodes rules node mode _ n p.1 in
      let r = if_given (fails15 lending rules) 15 _ q.1 in
      let s = if_given (ltb lent (length file)) 6 _ r.1 in
      let told = s.1 in (
        record {
          lends = (passes_right lending p.0.0 p.0.1).0;
          started = q.0;
          counted = eqb-true (length rules) (length (rule_list (fields_of lending))) (not-false _ r.0);
        },
        cc,
      )

  -- Only 6 is left of the checks.
  pub lent_writes :
      Lent lending nodes rules node mode
      → write_answer lending nodes rules node mode lent ≡ refuse_if (ltb lent (length file)) 6 (given (length file))
  unfolding write_answer fails15
  lent_writes l =
      rw (right_passes lending l.lends)
      (table_passes nodes rules node mode _ l.started
      ∙ rw (eq-eqb (length rules) (length (rule_list (fields_of lending))) l.counted) refl)
