-- The kinds of nodes and their words (01, "The grammar table").
use Rattle.std.specs.Prelude.{◌≡◌, ℕ, ◌<◌, Result, MatchResult}
use Rattle.table.specs.declared.kinds.Kind.{Kind}
use Rattle.table.specs.declared.kinds.Kind.TheVariants.{Empty, Terminal, Rule, Sequence, Choice, Not, Repeat, Indent, Position, Align}
use Rattle.table.specs.declared.kinds.NoKind.{NoKind}

-- The word that stands for a kind.
abbrev pub word_of : Kind → ℕ
word_of Empty = 0
word_of Terminal = 1
word_of Rule = 2
word_of Sequence = 3
word_of Choice = 4
word_of Not = 5
word_of Repeat = 6
word_of Indent = 7
word_of Position = 8
word_of Align = 9

-- A word is read as the kind that it stands for; a word over 9 stands for none.
abbrev pub KindOf : ℕ → Result Kind NoKind → Type 0
KindOf word r = MatchResult r (λ kind. word_of kind ≡ word) (λ _. 9 < word)
