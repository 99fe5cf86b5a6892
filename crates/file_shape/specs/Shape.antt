-- What an inspection of a file finds: the first of numbers 1 to 5 that fails, or the fields by tag and offset.
use Rattle.std.specs.Prelude.{ℕ, ◌≡◌, false, Result, MatchResult, List, [], ◌∷◌}
use Rattle.table.specs.Answer.{given}
use Rattle.table.specs.Refusals.{turned_down}
use Rattle.table.specs.declared.refusals.Refusal.{Refusal}
use Rattle.file_fields.specs.Fields.{tagged}
use Rattle.file_fields.specs.Offsets.{field_at, fields_from}
use Rattle.file_shape.specs.Contents.{fields_of, fails1, contents, file_answer}
use Rattle.file_shape.specs.declared.Shape.{Shape}

-- The fields of a file that number 1 passes, by tag and offset.
pub record Parts (file : List ℕ) (s : Shape) : Type 0 where
  pub passes : fails1 file ≡ false
  pub keyword_fields : tagged 2 (fields_of file) ≡ fields_from file 4 s.keywords
  pub rule_fields : tagged 3 (fields_of file) ≡ fields_from file s.rules.at s.rules.count
  pub node_fields : tagged 4 (fields_of file) ≡ fields_from file s.nodes.at s.nodes.count
  pub start_field : tagged 5 (fields_of file) ≡ field_at file s.start ∷ []

-- What an inspection by numbers 1 to 5 found.
abbrev pub Inspects : List ℕ → Result Shape Refusal → Type 0
Inspects file r =
    MatchResult r
    (λ s. Parts file s × (file_answer file ≡ given (contents (fields_of file))))
    (λ e. file_answer file ≡ turned_down e)
