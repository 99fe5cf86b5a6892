-- The counts and the start of a file whose fields are known by offset, and its keywords.
use Prim.Native.Nat.{ℕ, ◌≤◌}
use mathlib.Core.Path.{◌≡◌, refl, sym}
use mathlib.Core.Bool.{true≢false, false, not, ◌||◌}
use mathlib.Core.List.{List, []}
use lib.ListN.{length, get_or}
use lib.Dec.{ltb}
use mathlib.Core.Option
use mathlib.Core.Option.{Option, some, none}
use native.Mathlib.Nat.{le_trans, le_of_eq}
use borrow.Author.Tests.{ltb-false}
use Rattle.table.proofs.Every.{both_false}
use Rattle.file_fields.specs.Fields.{fields, in_order, Field, two_bytes}
use Rattle.file_fields.specs.Offsets.{keywords_from, value_at, spellings_from}
use Rattle.file_shape.specs.Shape.{Parts}
use Rattle.file_shape.specs.declared.Shape.{Shape}
use Rattle.file_shape.proofs.PartLaws.{keywords_are, start_is, node_count_lem, rule_count, keyword_count}
use Rattle.grammar_file.specs.File.{most_bytes, most_keywords, right_values, unreadable, fails1, keywords}
use Rattle.grammar_file.specs.File.{fields_of, contents, Contents}

-- The counts, and the start read from its value.
pub counted : (file : List ℕ) (s : Shape) → Parts file s → {v : List ℕ} {a m : ℕ} → v ≡ value_at file s.start → a ≡ two_bytes (get_or v 0 0) (get_or v 1 0) → m ≡ get_or v 2 0
    → ◌≡◌ {A = Contents} (record { nodes = s.nodes.count; rules = s.rules.count; keywords = s.keywords; start = a; mode = m }) (contents (fields_of file))
unfolding contents
counted file s p e x y =
    rw (x, y, e, ← start_is file s p, ← node_count_lem file s p, ← rule_count file s p, ← keyword_count file s p) refl

-- A file that number 1 passes has no more than 253 keywords.
few_keywords : (o : Option (List Field)) → unreadable o ≡ false → length (keywords (Option.get_or o [])) ≤ most_keywords
unfolding unreadable
few_keywords none e = absurd (true≢false e)
few_keywords (some fs) e = ltb-false most_keywords (length (keywords fs)) (both_false (not (in_order fs) || not (right_values fs)) (ltb most_keywords (length (keywords fs))) e).1

-- Its keywords, by offset.
pub keywords_stand : (file : List ℕ) (s : Shape) → Parts file s → (keywords (fields_of file) ≡ keywords_from file s.keywords) × (s.keywords ≤ most_keywords)
unfolding fails1 keywords_from spellings_from
keywords_stand file s p = (
  keywords_are file s p,
  le_trans (le_of_eq (sym (keyword_count file s p)))
      (few_keywords (fields file)
      (both_false (ltb most_bytes (length file)) (unreadable (fields file)) p.passes).1),
)
