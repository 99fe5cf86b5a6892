-- A grammar that reads alike and three that do not, as tables, with a run of each of the three that the two readings answer
-- differently. `AlikeCasesHold`, in proofs, shows all of it.
use Rattle.std.specs.Prelude.{ℕ, false, List, [], ◌∷◌}
use Rattle.table.specs.Answer.{Answer}
use Rattle.table.specs.Words.{each_words}
use Rattle.table.specs.Form.{empty, terminal, rule, sequence, not, repeat, indent, align}
use Rattle.columns.specs.Relations.{equal, greater, any}
use Rattle.columns.specs.Intervals.{to}
use Rattle.columns.specs.declared.Upper.TheVariants.{At}
use Rattle.columns.specs.declared.Interval.{Interval}
use Rattle.columns.specs.declared.Start.{Start}
use Rattle.columns.specs.declared.Reading.{Reading}
use Rattle.clauses.specs.RunAnswer.{Ended, run_answer}
use Rattle.clauses.specs.Cases.{four_words, token_words, ◌at◌}

-- A start in mode equal under a clear flag: node, place, columns.
abbrev pub start_at : ℕ → ℕ → Interval → Start
start_at node place interval = record { node = node; place = place; interval = interval; flag = false; mode = equal }

-- Reports of a splicer. Terminals: 0 a number, 2 a line end, 3 "fibre", 4 "loss". Rules: 0 report, 1 fibre, 2 entry.
unfoldable pub fibre_nodes : List ℕ
fibre_nodes =
    each_words four_words
    -- report = (align fibre)*
    (rule 1 ∷ align 0 ∷ repeat 1
    -- fibre = "fibre" indent any number indent any eol indent greater (align entry)*
    ∷ terminal 3 ∷ terminal 0 ∷ terminal 2 ∷ indent 4 any ∷ indent 5 any ∷ sequence 6 7
    ∷ rule 2 ∷ align 9 ∷ repeat 10 ∷ indent 11 greater ∷ sequence 8 12 ∷ sequence 3 13
    -- entry = "loss" indent any number indent any eol
    ∷ terminal 4 ∷ sequence 15 8 ∷ [])

-- The nodes of its rules.
unfoldable pub fibre_rules : List ℕ
fibre_rules = 2 ∷ 14 ∷ 16 ∷ []

-- One: fibre 4 at column 0, and under it loss 0.07 at column 2.
unfoldable pub fibre_report : List ℕ
fibre_report = each_words token_words (3 at 0 ∷ 0 at 6 ∷ 2 at 7 ∷ 4 at 2 ∷ 0 at 7 ∷ 2 at 11 ∷ [])

-- |a^>|: an align whose first token stands under an indent. 3 is a.
unfoldable pub aligned_indent : List ℕ
aligned_indent = each_words four_words (terminal 3 ∷ indent 0 greater ∷ align 1 ∷ [])

-- !|a^>|: the same under a not.
unfoldable pub aligned_in_not : List ℕ
aligned_in_not = each_words four_words (terminal 3 ∷ indent 0 greater ∷ align 1 ∷ not 2 ∷ [])

-- |ε|a^>: an align that reads nothing, from Note 5.
unfoldable pub aligned_empty : List ℕ
aligned_empty = each_words four_words (empty ∷ align 0 ∷ terminal 3 ∷ indent 2 greater ∷ sequence 1 3 ∷ [])

-- What a run of a node without rules answers by a reading, to the one token a, from the column at which it stands.
unfoldable pub answer_at : Reading → List ℕ → ℕ → ℕ → Answer Ended
answer_at reading nodes node column =
    run_answer reading nodes [] (each_words token_words (3 at column ∷ [])) (start_at node 0 (to column (At column)))
