-- Cases by both readings side by side (02, Note 5): by 001, of 2017, and by 000, of 2014. A case is a run (nodes, rules, tokens,
-- start), or a run that lists, with what is expected of it by 2017 and by 2014. The answers are worked by hand from Note 5,
-- figure 6 of 000 and the clauses of 001, the farthest places from Note 7; `ReadingCasesHold`, in proofs, computes them all.
use Rattle.std.specs.Prelude.{ℕ, Bool, true, false, List, [], ◌∷◌, ◌++◌}
use Rattle.table.specs.Answer.{Answer, refused, refused_at}
use Rattle.table.specs.Form.{Form, empty, terminal, rule, sequence, choice, not, repeat, indent, position, align}
use Rattle.columns.specs.Relations.{equal, greater, at_least, any, step}
use Rattle.columns.specs.Intervals.{to}
use Rattle.columns.specs.declared.Upper.TheVariants.{At, Endless}
use Rattle.columns.specs.declared.Interval.{Interval}
use Rattle.columns.specs.declared.Start.{Start}
use Rattle.columns.specs.declared.Reading.TheVariants.{By2017, By2014}
use Rattle.clauses.specs.RunAnswer.{Ended}
use Rattle.clauses.specs.ListAnswer.{Listing}
use Rattle.clauses.specs.Cases.{TokenAt, ◌at◌, reads, fails, running, from, from_place, a, b, c}
use Rattle.clauses.specs.CaptureCases.{Listed, listing_by, counting, nines, zeros, capture}

-- A run, or a run that lists into words lent to it, with what is expected of it by each reading.
pub data ReadingCase : Type 0 where
  runs :
      (nodes : List Form) (rules : List ℕ) (tokens : List TokenAt) (start : Start)
      (by2017 by2014 : Answer Ended)
      → ReadingCase
  lists :
      (nodes : List Form) (rules : List ℕ) (tokens : List TokenAt) (start : Start) (before : List ℕ)
      (by2017 by2014 : Listed)
      → ReadingCase

-- What a run, or a run that lists, answers by 2017 and by 2014.
pub data Answered : Type 0 where
  ran : (by2017 by2014 : Answer Ended) → Answered
  listed : (by2017 by2014 : Listed) → Answered

abbrev pub expected : ReadingCase → Answered
expected (runs nodes rules tokens start by2017 by2014) = ran by2017 by2014
expected (lists nodes rules tokens start before by2017 by2014) = listed by2017 by2014

unfoldable pub answered : ReadingCase → Answered
answered (runs nodes rules tokens start by2017 by2014) =
    ran (running By2017 nodes rules tokens start) (running By2014 nodes rules tokens start)
answered (lists nodes rules tokens start before by2017 by2014) =
    listed (listing_by By2017 nodes rules tokens start before) (listing_by By2014 nodes rules tokens start before)

-- A case whose answer is the same by both.
abbrev pub same : List Form → List ℕ → List TokenAt → Start → Answer Ended → ReadingCase
same nodes rules tokens start answer = runs nodes rules tokens start answer answer

-- An answer and the words afterwards.
abbrev pub leaves : Answer Listing → List ℕ → Listed
leaves answer afterwards = record { answer = answer; afterwards = afterwards }

-- From place 0 in mode equal: node, interval, flag.
abbrev pub inside : ℕ → Interval → Bool → Start
inside node interval flag = record { node = node; place = 0; interval = interval; flag = flag; mode = equal }

-- The same under a set flag, from 0 without end.
abbrev pub flagged : ℕ → Start
flagged node = inside node (to 0 Endless) true

-- a^ρ, and |a^ρ| as node 2.
abbrev pub under : ℕ → List Form
under ρ = terminal a ∷ indent 0 ρ ∷ align 1 ∷ []

-- Note 5's own case: |ε|a^> in mode equal on a⁰. On a⁵ both read it, and leave other intervals.
unfoldable pub note_cases : List ReadingCase
note_cases =
    runs (empty ∷ align 0 ∷ terminal a ∷ indent 2 greater ∷ sequence 1 3 ∷ []) [] (a at 0 ∷ []) (from 4 equal)
    (fails 0) (reads 1 0 (At 0) false 0)
    ∷ runs (empty ∷ align 0 ∷ terminal a ∷ indent 2 greater ∷ sequence 1 3 ∷ []) [] (a at 5 ∷ []) (from 4 equal)
    (reads 1 0 (At 4) false 0) (reads 1 5 (At 5) false 0)
    ∷ []

-- 000, section 2.2: parentheses and brackets, A = ((A^>) / [^≥A^>]^≥)*. Terminals 1 to 4 are ( ) [ ].
abbrev pub bracket_nodes : List Form
bracket_nodes =
    terminal 1 ∷ terminal 2 ∷ terminal 3 ∷ terminal 4 ∷ indent 2 at_least ∷ indent 3 at_least ∷ rule 0 ∷ indent 6 greater
    ∷ sequence 7 1 ∷ sequence 0 8 ∷ sequence 7 5 ∷ sequence 4 10 ∷ choice 9 11 ∷ repeat 12
    ∷ []

-- 000, figure 4 and section 4.3, reduced: case^>(|alts|*)^> where alts is name^>arrow^>. a is case, b a name, c an arrow.
-- Rules: 0 the whole, 1 (|alts|*)^>, 2 alts.
abbrev pub case_nodes : List Form
case_nodes =
    terminal a ∷ indent 0 greater ∷ terminal b ∷ indent 2 greater ∷ terminal c ∷ indent 4 greater ∷ sequence 3 5
    ∷ rule 2 ∷ align 7 ∷ repeat 8 ∷ indent 9 greater ∷ rule 1 ∷ sequence 1 11 ∷ rule 0
    ∷ []

abbrev pub case_rules : List ℕ
case_rules = 12 ∷ 10 ∷ 6 ∷ []

-- 000, section 3.2.2, reduced: atom is [^>item^any]^any, where a is [, b an item, c ]; and |atom| as node 8.
abbrev pub atom_nodes : List Form
atom_nodes =
    terminal a ∷ indent 0 greater ∷ terminal b ∷ indent 2 any ∷ terminal c ∷ indent 4 any ∷ sequence 3 5 ∷ sequence 1 6
    ∷ align 7
    ∷ []

-- 000's own examples, sections 2 to 4. Its figures write a terminal's relation as an indent around it, and so is it here.
unfoldable pub paper_cases : List ReadingCase
paper_cases =
    -- 4.2: a(b^> / ε) on a¹b² and on a³b².
    same (terminal a ∷ terminal b ∷ indent 1 greater ∷ empty ∷ choice 2 3 ∷ sequence 0 4 ∷ []) []
    (a at 1 ∷ b at 2 ∷ []) (from 5 equal) (reads 2 1 (At 1) false 1)
    ∷ same (terminal a ∷ terminal b ∷ indent 1 greater ∷ empty ∷ choice 2 3 ∷ sequence 0 4 ∷ []) []
    (a at 3 ∷ b at 2 ∷ []) (from 5 equal) (reads 1 3 (At 3) false 1)
    -- 4.2: p^> from 1 to 2 lets p in from 2 on; of 1 and 2 those stay that a token at 2, or at 3, is greater than.
    ∷ same (under greater) [] (a at 1 ∷ []) (inside 1 (to 1 (At 2)) false) (fails 0)
    ∷ same (under greater) [] (a at 2 ∷ []) (inside 1 (to 1 (At 2)) false) (reads 1 1 (At 1) false 0)
    ∷ same (under greater) [] (a at 3 ∷ []) (inside 1 (to 1 (At 2)) false) (reads 1 1 (At 2) false 0)
    -- 4.2, the exception: |p^>| from 1 to 2.
    ∷ runs (under greater) [] (a at 2 ∷ []) (inside 2 (to 1 (At 2)) false) (reads 1 1 (At 1) false 0) (reads 1 2 (At 2) false 0)
    -- 2.2: the two words of figure 2; then a closing parenthesis off its column, so that nothing is read.
    ∷ same bracket_nodes (13 ∷ []) (1 at 1 ∷ 3 at 4 ∷ 1 at 5 ∷ 2 at 5 ∷ 4 at 7 ∷ 2 at 1 ∷ []) (from 6 equal)
    (reads 6 1 (At 1) false 6)
    ∷ same bracket_nodes (13 ∷ [])
    (1 at 1 ∷ 3 at 8 ∷ 1 at 6 ∷ 2 at 6 ∷ 3 at 8 ∷ 4 at 9 ∷ 4 at 4 ∷ 1 at 3 ∷ 2 at 3 ∷ 2 at 1 ∷ []) (from 6 equal)
    (reads 10 1 (At 1) false 10)
    ∷ same bracket_nodes (13 ∷ []) (1 at 1 ∷ 3 at 4 ∷ 4 at 7 ∷ 2 at 2 ∷ []) (from 6 equal) (reads 0 0 Endless false 3)
    -- 2.2: the first token of |p| gives its column: |ab^>|, and |a^>b^>|, where 2014 passes over the first indent alone.
    ∷ same (terminal a ∷ terminal b ∷ indent 1 greater ∷ sequence 0 2 ∷ align 3 ∷ []) [] (a at 2 ∷ b at 5 ∷ [])
    (from 4 equal) (reads 2 2 (At 2) false 1)
    ∷ runs (terminal a ∷ indent 0 greater ∷ terminal b ∷ indent 2 greater ∷ sequence 1 3 ∷ align 4 ∷ []) []
    (a at 2 ∷ b at 5 ∷ []) (from 5 equal) (reads 2 0 (At 1) false 1) (reads 2 2 (At 2) false 1)
    -- 4.2: (|a^>|*)^> from 1 to 1 starts at any column from 2 on; by 2017 the inner indent counts too, and asks for 3 on.
    ∷ runs (terminal a ∷ indent 0 greater ∷ align 1 ∷ repeat 2 ∷ indent 3 greater ∷ []) [] (a at 2 ∷ [])
    (inside 4 (to 1 (At 1)) false) (reads 0 1 (At 1) false 0) (reads 1 1 (At 1) false 1)
    -- 4.3: case at 3, Left at 5, Right at 4, from 1 to 1: Right is no part of it by 2014; with Right at 5 it is by both.
    ∷ runs case_nodes case_rules (a at 3 ∷ b at 5 ∷ c at 10 ∷ b at 4 ∷ c at 9 ∷ []) (inside 13 (to 1 (At 1)) false)
    (reads 5 1 (At 1) false 5) (reads 3 1 (At 1) false 3)
    ∷ same case_nodes case_rules (a at 3 ∷ b at 5 ∷ c at 10 ∷ b at 5 ∷ c at 9 ∷ []) (inside 13 (to 1 (At 1)) false)
    (reads 5 1 (At 1) false 5)
    -- 4.3: behind Left at 5 its arrow stands at 6 or later by 2014.
    ∷ runs case_nodes case_rules (a at 3 ∷ b at 5 ∷ c at 5 ∷ []) (inside 13 (to 1 (At 1)) false)
    (reads 3 1 (At 1) false 3) (reads 1 1 (At 1) false 2)
    -- 3.2.2: an atom's inside and its end at any column; aligned, its opening stands on the baseline by 2014.
    ∷ same atom_nodes [] (a at 2 ∷ b at 0 ∷ c at 0 ∷ []) (inside 7 (to 1 (At 1)) false) (reads 3 1 (At 1) false 2)
    ∷ runs atom_nodes [] (a at 1 ∷ b at 0 ∷ c at 0 ∷ []) (inside 8 (to 1 (At 1)) false) (fails 0) (reads 3 1 (At 1) false 2)
    -- Footnote 1: occam's step by 2.
    ∷ same (terminal a ∷ terminal b ∷ indent 1 (step 2) ∷ sequence 0 2 ∷ []) [] (a at 1 ∷ b at 3 ∷ []) (from 3 equal)
    (reads 2 1 (At 1) false 1)
    ∷ []

-- 001, section 2.4, second point: by 2014 an align that read nothing leaves the flag set for the next token.
unfoldable pub flag_cases : List ReadingCase
flag_cases =
    -- a|ε|b^> on a²b² and on a²b³.
    runs (terminal a ∷ empty ∷ align 1 ∷ terminal b ∷ indent 3 greater ∷ sequence 2 4 ∷ sequence 0 5 ∷ []) []
    (a at 2 ∷ b at 2 ∷ []) (from 6 equal) (fails 1) (reads 2 2 (At 2) false 1)
    ∷ runs (terminal a ∷ empty ∷ align 1 ∷ terminal b ∷ indent 3 greater ∷ sequence 2 4 ∷ sequence 0 5 ∷ []) []
    (a at 2 ∷ b at 3 ∷ []) (from 6 equal) (reads 2 2 (At 2) false 1) (fails 1)
    -- |a / ε|b^> on b¹; on a¹b² the align reads a, and the flag is clear by both.
    ∷ runs (terminal a ∷ empty ∷ choice 0 1 ∷ align 2 ∷ terminal b ∷ indent 4 greater ∷ sequence 3 5 ∷ []) []
    (b at 1 ∷ []) (from 6 equal) (reads 1 0 (At 0) false 0) (reads 1 1 (At 1) false 0)
    ∷ same (terminal a ∷ empty ∷ choice 0 1 ∷ align 2 ∷ terminal b ∷ indent 4 greater ∷ sequence 3 5 ∷ []) []
    (a at 1 ∷ b at 2 ∷ []) (from 6 equal) (reads 2 1 (At 1) false 1)
    -- |!a|b^> on b⁰.
    ∷ runs (terminal a ∷ not 0 ∷ align 1 ∷ terminal b ∷ indent 3 greater ∷ sequence 2 4 ∷ []) [] (b at 0 ∷ [])
    (from 5 equal) (fails 0) (reads 1 0 (At 0) false 0)
    -- (|ε|a^>)* on a⁰a⁰.
    ∷ runs (empty ∷ align 0 ∷ terminal a ∷ indent 2 greater ∷ sequence 1 3 ∷ repeat 4 ∷ []) [] (a at 0 ∷ a at 0 ∷ [])
    (from 5 equal) (reads 0 0 Endless false 0) (reads 2 0 (At 0) false 2)
    -- (a^>|ε|)* on a³a¹: by 2014 the second a is aligned, and the run ends with the flag set.
    ∷ runs (terminal a ∷ indent 0 greater ∷ empty ∷ align 2 ∷ sequence 1 3 ∷ repeat 4 ∷ []) [] (a at 3 ∷ a at 1 ∷ [])
    (from 5 equal) (reads 2 0 (At 0) false 2) (reads 2 1 (At 1) true 2)
    ∷ []

-- 001, section 2.4, third point: by 2014 an indent under a set flag is passed over.
unfoldable pub indent_cases : List ReadingCase
indent_cases =
    -- On the way in: |a^>| from 1 to 1 on a¹ and on a⁴ (bench case i).
    runs (under greater) [] (a at 1 ∷ []) (inside 2 (to 1 (At 1)) false) (fails 0) (reads 1 1 (At 1) false 0)
    ∷ runs (under greater) [] (a at 4 ∷ []) (inside 2 (to 1 (At 1)) false) (reads 1 1 (At 1) false 0) (fails 0)
    -- On the way out: |a^>| on a³. The flag on the way in decides, though a has cleared it.
    ∷ runs (under greater) [] (a at 3 ∷ []) (from 2 equal) (reads 1 0 (At 2) false 0) (reads 1 3 (At 3) false 0)
    -- |a|^> on a³: what |a^>| is by 2017, and not by 2014.
    ∷ same (terminal a ∷ align 0 ∷ indent 1 greater ∷ []) [] (a at 3 ∷ []) (from 2 equal) (reads 1 0 (At 2) false 0)
    -- |(a^any b)^>| from 1 to 1: both read a at 1; b, no longer aligned, stands at 1 by 2014 and greater by 2017.
    ∷ runs (terminal a ∷ indent 0 any ∷ terminal b ∷ sequence 1 2 ∷ indent 3 greater ∷ align 4 ∷ []) []
    (a at 1 ∷ b at 1 ∷ []) (inside 5 (to 1 (At 1)) false) (fails 1) (reads 2 1 (At 1) false 1)
    ∷ runs (terminal a ∷ indent 0 any ∷ terminal b ∷ sequence 1 2 ∷ indent 3 greater ∷ align 4 ∷ []) []
    (a at 1 ∷ b at 2 ∷ []) (inside 5 (to 1 (At 1)) false) (reads 2 1 (At 1) false 1) (fails 1)
    -- |(a^>b^>)^>| on a²b³: by 2014 the indent around b counts, as the flag is clear there.
    ∷ runs (terminal a ∷ indent 0 greater ∷ terminal b ∷ indent 2 greater ∷ sequence 1 3 ∷ indent 4 greater ∷ align 5 ∷ []) []
    (a at 2 ∷ b at 3 ∷ []) (from 6 equal) (reads 2 0 (At 0) false 1) (reads 2 2 (At 2) false 1)
    -- (a|ε|)^> on a⁵: entered under a clear flag it narrows, though by 2014 the flag is set at its end.
    ∷ runs (terminal a ∷ empty ∷ align 1 ∷ sequence 0 2 ∷ indent 3 greater ∷ []) [] (a at 5 ∷ []) (from 4 equal)
    (reads 1 0 (At 4) false 0) (reads 1 0 (At 4) true 0)
    -- (a|ε|)^>b^> on a⁵b³ and on a⁵b⁵.
    ∷ runs
    (terminal a ∷ empty ∷ align 1 ∷ sequence 0 2 ∷ indent 3 greater ∷ terminal b ∷ indent 5 greater ∷ sequence 4 6 ∷ []) []
    (a at 5 ∷ b at 3 ∷ []) (from 7 equal) (reads 2 0 (At 2) false 1) (reads 2 3 (At 3) false 1)
    ∷ runs
    (terminal a ∷ empty ∷ align 1 ∷ sequence 0 2 ∷ indent 3 greater ∷ terminal b ∷ indent 5 greater ∷ sequence 4 6 ∷ []) []
    (a at 5 ∷ b at 5 ∷ []) (from 7 equal) (reads 2 0 (At 4) false 1) (fails 1)
    -- (|ε|a)^> on a⁵: the flag is set inside alone.
    ∷ same (empty ∷ align 0 ∷ terminal a ∷ sequence 1 2 ∷ indent 3 greater ∷ []) [] (a at 5 ∷ []) (from 4 equal)
    (reads 1 0 (At 4) false 0)
    -- |ε|^> from 2 to 5.
    ∷ runs (empty ∷ align 0 ∷ indent 1 greater ∷ []) [] [] (inside 2 (to 2 (At 5)) false)
    (reads 0 2 (At 5) false 0) (reads 0 2 (At 5) true 0)
    ∷ []

-- 001, theorem 2.1: a run never sets the flag, leaves the state as it is where it reads nothing, and clears the flag where it
-- reads something. None of the three holds by 2014.
unfoldable pub law_cases : List ReadingCase
law_cases =
    -- |ε| from a clear flag: nothing is read and the flag is set. From a set flag it stays so by both.
    runs (empty ∷ align 0 ∷ []) [] [] (from 1 equal) (reads 0 0 Endless false 0) (reads 0 0 Endless true 0)
    ∷ same (empty ∷ align 0 ∷ []) [] [] (flagged 1) (reads 0 0 Endless true 0)
    -- a|ε| on a⁴ from a clear and from a set flag: a token is read and the flag is set.
    ∷ runs (terminal a ∷ empty ∷ align 1 ∷ sequence 0 2 ∷ []) [] (a at 4 ∷ []) (from 3 equal)
    (reads 1 4 (At 4) false 0) (reads 1 4 (At 4) true 0)
    ∷ runs (terminal a ∷ empty ∷ align 1 ∷ sequence 0 2 ∷ []) [] (a at 4 ∷ []) (flagged 3)
    (reads 1 4 (At 4) false 0) (reads 1 4 (At 4) true 0)
    -- 001, theorem 2.3: |!a| is as !|a|, by 2017.
    ∷ runs (terminal a ∷ not 0 ∷ align 1 ∷ []) [] (b at 0 ∷ []) (from 2 equal)
    (reads 0 0 Endless false 0) (reads 0 0 Endless true 0)
    ∷ same (terminal a ∷ align 0 ∷ not 1 ∷ []) [] (b at 0 ∷ []) (from 2 equal) (reads 0 0 Endless false 0)
    -- A token that an align reads clears the flag by both, also one that was set before: |a|, and |a|b^>.
    ∷ same (terminal a ∷ align 0 ∷ []) [] (a at 5 ∷ []) (flagged 1) (reads 1 5 (At 5) false 0)
    ∷ same (terminal a ∷ align 0 ∷ terminal b ∷ indent 2 greater ∷ sequence 1 3 ∷ []) [] (a at 4 ∷ b at 5 ∷ []) (flagged 4)
    (reads 2 4 (At 4) false 1)
    ∷ []

-- From a set flag and from an interval, under each relation: "A start gives a node, a token place, an interval, a flag ..".
unfoldable pub start_cases : List ReadingCase
start_cases =
    -- a on a⁵ under a set flag.
    same (terminal a ∷ []) [] (a at 5 ∷ []) (flagged 0) (reads 1 5 (At 5) false 0)
    -- a^≥ from 2 to 3, a^any from 3 to 3 and a^= from 2 to 4, under a set flag.
    ∷ runs (under at_least) [] (a at 5 ∷ []) (inside 1 (to 2 (At 3)) true) (reads 1 2 (At 3) false 0) (fails 0)
    ∷ runs (under any) [] (a at 0 ∷ []) (inside 1 (to 3 (At 3)) true) (reads 1 3 (At 3) false 0) (fails 0)
    ∷ same (under equal) [] (a at 3 ∷ []) (inside 1 (to 2 (At 4)) true) (reads 1 3 (At 3) false 0)
    -- a by a step of 2 from 3 to 5, under a clear and under a set flag.
    ∷ same (under (step 2)) [] (a at 6 ∷ []) (inside 1 (to 3 (At 5)) false) (reads 1 4 (At 4) false 0)
    ∷ runs (under (step 2)) [] (a at 4 ∷ []) (inside 1 (to 3 (At 5)) true) (fails 0) (reads 1 4 (At 4) false 0)
    ∷ runs (under (step 2)) [] (a at 5 ∷ []) (inside 1 (to 3 (At 5)) true) (reads 1 3 (At 3) false 0) (reads 1 5 (At 5) false 0)
    ∷ runs (under (step 2)) [] (a at 6 ∷ []) (inside 1 (to 3 (At 5)) true) (reads 1 4 (At 4) false 0) (fails 0)
    -- The first and the last step, relations 4 and 34, under a set flag.
    ∷ runs (under 4) [] (a at 0 ∷ []) (flagged 1) (fails 0) (reads 1 0 (At 0) false 0)
    ∷ runs (under 34) [] (a at 31 ∷ []) (inside 1 (to 0 (At 0)) true) (reads 1 0 (At 0) false 0) (fails 0)
    -- a^> from place 1: the end place is 2.
    ∷ runs (under greater) [] (b at 0 ∷ a at 2 ∷ [])
    (record { node = 1; place = 1; interval = to 0 Endless; flag = true; mode = equal })
    (reads 2 0 (At 1) false 1) (reads 2 2 (At 2) false 1)
    ∷ []

-- "Not and failure hand the old state on": its flag too, by both readings.
unfoldable pub back_cases : List ReadingCase
back_cases =
    -- !(a^>)a on a⁰ under a set flag.
    runs (terminal a ∷ indent 0 greater ∷ not 1 ∷ sequence 2 0 ∷ []) [] (a at 0 ∷ []) (flagged 3)
    (reads 1 0 (At 0) false 0) (fails 0)
    -- !(|ε|b)a^> and !!|ε|a^> on a⁵: the flag that the align leaves stays in the not.
    ∷ same (empty ∷ align 0 ∷ terminal b ∷ sequence 1 2 ∷ not 3 ∷ terminal a ∷ indent 5 greater ∷ sequence 4 6 ∷ []) []
    (a at 5 ∷ []) (from 7 equal) (reads 1 0 (At 4) false 0)
    ∷ same (empty ∷ align 0 ∷ not 1 ∷ not 2 ∷ terminal a ∷ indent 4 greater ∷ sequence 3 5 ∷ []) []
    (a at 5 ∷ []) (from 6 equal) (reads 1 0 (At 4) false 0)
    -- |ε|b / a^> on a⁵: what the first alternative set is clear for the second.
    ∷ same (empty ∷ align 0 ∷ terminal b ∷ sequence 1 2 ∷ terminal a ∷ indent 4 greater ∷ choice 3 5 ∷ []) []
    (a at 5 ∷ []) (from 6 equal) (reads 1 0 (At 4) false 0)
    -- ac / a^> on a⁵ under a set flag: what the first alternative cleared is set for the second.
    ∷ runs (terminal a ∷ terminal c ∷ sequence 0 1 ∷ indent 0 greater ∷ choice 2 3 ∷ []) [] (a at 5 ∷ []) (flagged 4)
    (reads 1 0 (At 4) false 1) (reads 1 5 (At 5) false 1)
    -- |b / a^>| on a⁰: under the align the second alternative has the flag set.
    ∷ runs (terminal b ∷ terminal a ∷ indent 1 greater ∷ choice 0 2 ∷ align 3 ∷ []) [] (a at 0 ∷ []) (from 4 equal)
    (fails 0) (reads 1 0 (At 0) false 0)
    -- (|ε|b)*a^> on a⁵: the last, failed round leaves no flag.
    ∷ same (empty ∷ align 0 ∷ terminal b ∷ sequence 1 2 ∷ repeat 3 ∷ terminal a ∷ indent 5 greater ∷ sequence 4 6 ∷ []) []
    (a at 5 ∷ []) (from 7 equal) (reads 1 0 (At 4) false 0)
    ∷ []

-- "16, under 2014 a position node anywhere in the table or a mode other than 0, after 12".
unfoldable pub sixteen_cases : List ReadingCase
sixteen_cases =
    -- A position as the start node, under it, and where no run comes.
    runs (empty ∷ position 0 equal ∷ []) [] [] (from 1 equal) (reads 0 0 Endless false 0) (refused 16)
    ∷ runs (terminal a ∷ position 0 equal ∷ indent 1 greater ∷ []) [] (a at 5 ∷ []) (from 2 equal)
    (reads 1 0 (At 4) false 0) (refused 16)
    ∷ runs (terminal a ∷ position 0 greater ∷ []) [] (a at 0 ∷ []) (from 0 equal) (reads 1 0 (At 0) false 0) (refused 16)
    ∷ runs (empty ∷ position 0 any ∷ terminal a ∷ []) [] (a at 0 ∷ []) (from 2 equal) (reads 1 0 (At 0) false 0) (refused 16)
    -- Modes 0, 1, 34 and 35.
    ∷ same (terminal a ∷ []) [] (a at 0 ∷ []) (from 0 equal) (reads 1 0 (At 0) false 0)
    ∷ runs (terminal a ∷ []) [] (a at 5 ∷ []) (from 0 greater) (reads 1 0 (At 4) false 0) (refused 16)
    ∷ runs (terminal a ∷ []) [] (a at 31 ∷ []) (from 0 34) (reads 1 0 (At 0) false 0) (refused 16)
    ∷ same (terminal a ∷ []) [] (a at 5 ∷ []) (from 0 35) (refused 12)
    -- A run that would fail is refused too.
    ∷ runs (terminal a ∷ []) [] [] (from 0 greater) (fails 0) (refused 16)
    -- 3, 4, 5, 7, 11 and 12 come before: each beside a position node or another mode.
    ∷ same [] [] [] (from 0 greater) (refused 3)
    ∷ same (empty ∷ position 0 35 ∷ []) [] [] (from 1 equal) (refused 4)
    ∷ same (empty ∷ position 0 equal ∷ []) (2 ∷ []) [] (from 1 equal) (refused 5)
    ∷ same (rule 0 ∷ position 0 equal ∷ []) (0 ∷ []) [] (from 1 equal) (refused_at 7 0)
    ∷ same (empty ∷ position 0 equal ∷ []) [] (256 at 0 ∷ []) (from 1 equal) (refused 11)
    ∷ same (empty ∷ position 0 equal ∷ []) [] [] (inside 1 (to 5 (At 4)) false) (refused 12)
    ∷ same (empty ∷ []) [] [] (from_place 1) (refused 12)
    ∷ []

-- "16 .. before 13": rule 0 is ε, one capture. Without a place for it: 13 by both; 16 by 2014 in another mode, and beside a
-- position node. With one: nothing is written where 16 refuses.
unfoldable pub place_cases : List ReadingCase
place_cases =
    lists (empty ∷ rule 0 ∷ []) (0 ∷ []) [] (from 1 equal) (nines 3)
    (leaves (refused 13) (nines 3)) (leaves (refused 13) (nines 3))
    ∷ lists (empty ∷ rule 0 ∷ []) (0 ∷ []) [] (from 1 greater) (nines 3)
    (leaves (refused 13) (nines 3)) (leaves (refused 16) (nines 3))
    ∷ lists (empty ∷ rule 0 ∷ position 0 equal ∷ []) (0 ∷ []) [] (from 1 equal) (nines 3)
    (leaves (refused 13) (nines 3)) (leaves (refused 16) (nines 3))
    ∷ lists (empty ∷ rule 0 ∷ []) (0 ∷ []) [] (from 1 greater) (nines 4)
    (leaves (counting 1 (reads 0 0 Endless false 0)) (capture 0 0 0 0)) (leaves (refused 16) (nines 4))
    ∷ []

-- Captures by each reading, "the one that the clauses' own derivation gives".
unfoldable pub captured_cases : List ReadingCase
captured_cases =
    -- Note 5's case with rules: XY on a⁰ where X is |ε| and Y is a^>. By 2017 it fails.
    lists (empty ∷ align 0 ∷ terminal a ∷ indent 2 greater ∷ rule 0 ∷ rule 1 ∷ sequence 4 5 ∷ []) (1 ∷ 3 ∷ []) (a at 0 ∷ [])
    (from 6 equal) (nines 12) (leaves (counting 0 (fails 0)) (zeros 12))
    (leaves (counting 2 (reads 1 0 (At 0) false 0)) (capture 0 0 0 0 ++ capture 1 0 1 0 ++ zeros 4))
    -- |ε|X / Y on a⁰ where X is a^> and Y is a: the outcome is the same, the capture is not.
    ∷ lists (empty ∷ align 0 ∷ terminal a ∷ indent 2 greater ∷ rule 0 ∷ sequence 1 4 ∷ rule 1 ∷ choice 5 6 ∷ []) (3 ∷ 2 ∷ [])
    (a at 0 ∷ []) (from 7 equal) (nines 8) (leaves (counting 1 (reads 1 0 (At 0) false 0)) (capture 1 0 1 0 ++ zeros 4))
    (leaves (counting 1 (reads 1 0 (At 0) false 0)) (capture 0 0 1 0 ++ zeros 4))
    -- !XY / Z on a⁰ under a set flag, where X is a^>, and Y and Z are a.
    ∷ lists (terminal a ∷ indent 0 greater ∷ rule 0 ∷ not 2 ∷ rule 1 ∷ sequence 3 4 ∷ rule 2 ∷ choice 5 6 ∷ [])
    (1 ∷ 0 ∷ 0 ∷ []) (a at 0 ∷ []) (flagged 7) (nines 4)
    (leaves (counting 1 (reads 1 0 (At 0) false 0)) (capture 1 0 1 0))
    (leaves (counting 1 (reads 1 0 (At 0) false 0)) (capture 2 0 1 0))
    -- X* on a⁰a⁰ where X is |ε|a^>, with room for two, and for one: 13 by the reading that lists two.
    ∷ lists (empty ∷ align 0 ∷ terminal a ∷ indent 2 greater ∷ sequence 1 3 ∷ rule 0 ∷ repeat 5 ∷ []) (4 ∷ [])
    (a at 0 ∷ a at 0 ∷ []) (from 6 equal) (nines 8) (leaves (counting 0 (reads 0 0 Endless false 0)) (zeros 8))
    (leaves (counting 2 (reads 2 0 (At 0) false 2)) (capture 0 0 1 0 ++ capture 0 1 2 0))
    ∷ lists (empty ∷ align 0 ∷ terminal a ∷ indent 2 greater ∷ sequence 1 3 ∷ rule 0 ∷ repeat 5 ∷ []) (4 ∷ [])
    (a at 0 ∷ a at 0 ∷ []) (from 6 equal) (nines 4) (leaves (counting 0 (reads 0 0 Endless false 0)) (zeros 4))
    (leaves (refused 13) (nines 4))
    -- 000, 4.3 once more: the alternatives that each reading takes into the case expression.
    ∷ lists case_nodes case_rules (a at 3 ∷ b at 5 ∷ c at 10 ∷ b at 4 ∷ c at 9 ∷ []) (inside 13 (to 1 (At 1)) false) (nines 16)
    (leaves (counting 4 (reads 5 1 (At 1) false 5)) (capture 0 0 5 0 ++ capture 1 1 5 1 ++ capture 2 1 3 2 ++ capture 2 3 5 2))
    (leaves (counting 3 (reads 3 1 (At 1) false 3)) (capture 0 0 3 0 ++ capture 1 1 3 1 ++ capture 2 1 3 2 ++ zeros 4))
    ∷ []
