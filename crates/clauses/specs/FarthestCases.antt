-- Cases of the farthest place (02, Note 7), worked by hand, by 2017 and by 2014. `FarthestCasesHold`, in proofs, computes them
-- all.
use Rattle.std.specs.Prelude.{ℕ, true, false, List, [], ◌∷◌}
use Rattle.table.specs.Form.{empty, terminal, rule, sequence, choice, not, repeat, indent, align}
use Rattle.columns.specs.Relations.{equal, greater}
use Rattle.columns.specs.Intervals.{to}
use Rattle.columns.specs.declared.Upper.TheVariants.{At, Endless}
use Rattle.columns.specs.declared.Start.{Start}
use Rattle.clauses.specs.Cases.{Case, run, run_by2014, ◌at◌, reads, fails, from, a, b, c}

-- A node in mode equal from a place.
abbrev pub from_in : (node place : ℕ) → Start
from_in node place = record { node = node; place = place; interval = to 0 Endless; flag = false; mode = equal }

-- "the start place if none was tried".
unfoldable pub none_tried : List Case
none_tried =
    -- ε from the first token, from one in the middle, and behind the last.
    run (empty ∷ []) [] (a at 0 ∷ a at 0 ∷ []) (from_in 0 0) (reads 0 0 Endless false 0)
    ∷ run (empty ∷ []) [] (a at 0 ∷ a at 0 ∷ []) (from_in 0 1) (reads 1 0 Endless false 1)
    ∷ run (empty ∷ []) [] (a at 0 ∷ a at 0 ∷ []) (from_in 0 2) (reads 2 0 Endless false 2)
    -- !ε and (!ε)* from the middle.
    ∷ run (empty ∷ not 0 ∷ []) [] (a at 0 ∷ a at 0 ∷ []) (from_in 1 1) (fails 1)
    ∷ run (empty ∷ not 0 ∷ repeat 1 ∷ []) [] (a at 0 ∷ a at 0 ∷ []) (from_in 2 1) (reads 1 0 Endless false 1)
    -- |ε| from the middle, by both readings.
    ∷ run (empty ∷ align 0 ∷ []) [] (a at 0 ∷ a at 0 ∷ []) (from_in 1 1) (reads 1 0 Endless false 1)
    ∷ run_by2014 (empty ∷ align 0 ∷ []) [] (a at 0 ∷ a at 0 ∷ []) (from_in 1 1) (reads 1 0 Endless true 1)
    ∷ []

-- A part that tries nothing adds nothing: the place where it stands does not count.
unfoldable pub silent_parts : List Case
silent_parts =
    -- aε, a|ε| and a!ε on a⁰a⁰.
    run (terminal a ∷ empty ∷ sequence 0 1 ∷ []) [] (a at 0 ∷ a at 0 ∷ []) (from 2 equal) (reads 1 0 (At 0) false 0)
    ∷ run (terminal a ∷ empty ∷ align 1 ∷ sequence 0 2 ∷ []) [] (a at 0 ∷ a at 0 ∷ []) (from 3 equal)
    (reads 1 0 (At 0) false 0)
    ∷ run (terminal a ∷ empty ∷ not 1 ∷ sequence 0 2 ∷ []) [] (a at 0 ∷ a at 0 ∷ []) (from 3 equal) (fails 0)
    -- aX on a⁰a⁰ where X is ε.
    ∷ run (terminal a ∷ empty ∷ rule 0 ∷ sequence 0 2 ∷ []) (1 ∷ []) (a at 0 ∷ a at 0 ∷ []) (from 3 equal)
    (reads 1 0 (At 0) false 0)
    -- A second part behind a failure, and a second alternative behind a success, are not tried.
    ∷ run (terminal a ∷ terminal b ∷ sequence 0 1 ∷ []) [] (b at 0 ∷ b at 0 ∷ []) (from 2 equal) (fails 0)
    ∷ run (terminal a ∷ sequence 0 0 ∷ choice 0 1 ∷ []) [] (a at 0 ∷ a at 0 ∷ []) (from 2 equal)
    (reads 1 0 (At 0) false 0)
    ∷ []

-- "Trials inside a not and in failed alternatives count."
unfoldable pub put_back : List Case
put_back =
    -- !(ab), !(aa) and !!(aa) on a⁰a⁰: tried only inside nots.
    run (terminal a ∷ terminal b ∷ sequence 0 1 ∷ not 2 ∷ []) [] (a at 0 ∷ a at 0 ∷ []) (from 3 equal)
    (reads 0 0 Endless false 1)
    ∷ run (terminal a ∷ sequence 0 0 ∷ not 1 ∷ []) [] (a at 0 ∷ a at 0 ∷ []) (from 2 equal) (fails 1)
    ∷ run (terminal a ∷ sequence 0 0 ∷ not 1 ∷ not 2 ∷ []) [] (a at 0 ∷ a at 0 ∷ []) (from 3 equal)
    (reads 0 0 Endless false 1)
    -- aab / ε on a⁰a⁰a⁰: tried only in a failed alternative. aab / a: and then less far.
    ∷ run (terminal a ∷ terminal b ∷ sequence 0 1 ∷ sequence 0 2 ∷ empty ∷ choice 3 4 ∷ []) []
    (a at 0 ∷ a at 0 ∷ a at 0 ∷ []) (from 5 equal) (reads 0 0 Endless false 2)
    ∷ run (terminal a ∷ terminal b ∷ sequence 0 1 ∷ sequence 0 2 ∷ choice 3 0 ∷ []) []
    (a at 0 ∷ a at 0 ∷ a at 0 ∷ []) (from 4 equal) (reads 1 0 (At 0) false 2)
    -- (ab / ac)d on a⁰c⁰: b and c tried at 1, d behind the last token; where c is not there, at 1 alone.
    ∷ run (terminal a ∷ terminal b ∷ terminal c ∷ sequence 0 1 ∷ sequence 0 2 ∷ choice 3 4 ∷ terminal 4 ∷ sequence 5 6 ∷ []) []
    (a at 0 ∷ c at 0 ∷ []) (from 7 equal) (fails 2)
    ∷ run (terminal a ∷ terminal b ∷ terminal c ∷ sequence 0 1 ∷ sequence 0 2 ∷ choice 3 4 ∷ terminal 4 ∷ sequence 5 6 ∷ []) []
    (a at 0 ∷ a at 0 ∷ []) (from 7 equal) (fails 1)
    -- A column that does not fit is a trial too: a(b^> / ε) on a⁰b⁰, and ab in mode equal on a⁰b¹.
    ∷ run (terminal a ∷ terminal b ∷ indent 1 greater ∷ empty ∷ choice 2 3 ∷ sequence 0 4 ∷ []) []
    (a at 0 ∷ b at 0 ∷ [])
    (from 5 equal) (reads 1 0 (At 0) false 1)
    ∷ run (terminal a ∷ terminal b ∷ sequence 0 1 ∷ []) [] (a at 0 ∷ b at 1 ∷ []) (from 2 equal) (fails 1)
    ∷ []

-- "the count itself if tried past the last token".
unfoldable pub past_the_last : List Case
past_the_last =
    -- a on no token, behind the last of two, and aaa on two.
    run (terminal a ∷ []) [] [] (from 0 equal) (fails 0)
    ∷ run (terminal a ∷ []) [] (a at 0 ∷ a at 0 ∷ []) (from_in 0 2) (fails 2)
    ∷ run (terminal a ∷ sequence 0 0 ∷ sequence 0 1 ∷ []) [] (a at 0 ∷ a at 0 ∷ []) (from 2 equal) (fails 2)
    -- aa!a on two: the whole report was read, and that nothing follows was tried.
    ∷ run (terminal a ∷ not 0 ∷ sequence 0 1 ∷ sequence 0 2 ∷ []) [] (a at 0 ∷ a at 0 ∷ []) (from 3 equal)
    (reads 2 0 (At 0) false 2)
    ∷ []

-- A repeat's last, failed round: a* on a⁰a⁰, on a⁰a⁰b⁰b⁰, and (ab)* on a⁰b⁰a⁰.
unfoldable pub last_rounds : List Case
last_rounds =
    run (terminal a ∷ repeat 0 ∷ []) [] (a at 0 ∷ a at 0 ∷ []) (from 1 equal) (reads 2 0 (At 0) false 2)
    ∷ run (terminal a ∷ repeat 0 ∷ []) [] (a at 0 ∷ a at 0 ∷ b at 0 ∷ b at 0 ∷ []) (from 1 equal)
    (reads 2 0 (At 0) false 2)
    ∷ run (terminal a ∷ terminal b ∷ sequence 0 1 ∷ repeat 2 ∷ []) [] (a at 0 ∷ b at 0 ∷ a at 0 ∷ [])
    (from 3 equal)
    (reads 2 0 (At 0) false 3)
    ∷ []

-- By each reading, from what it tried: |a^>|b from 1 to 1 on a¹b¹, by 2017 a alone, by 2014 both; and (|ε|a^>)* on a⁰a⁰.
unfoldable pub by_reading : List Case
by_reading =
    run (terminal a ∷ indent 0 greater ∷ align 1 ∷ terminal b ∷ sequence 2 3 ∷ []) [] (a at 1 ∷ b at 1 ∷ [])
    (record { node = 4; place = 0; interval = to 1 (At 1); flag = false; mode = equal }) (fails 0)
    ∷ run_by2014 (terminal a ∷ indent 0 greater ∷ align 1 ∷ terminal b ∷ sequence 2 3 ∷ []) []
    (a at 1 ∷ b at 1 ∷ [])
    (record { node = 4; place = 0; interval = to 1 (At 1); flag = false; mode = equal }) (reads 2 1 (At 1) false 1)
    ∷ run (empty ∷ align 0 ∷ terminal a ∷ indent 2 greater ∷ sequence 1 3 ∷ repeat 4 ∷ []) []
    (a at 0 ∷ a at 0 ∷ [])
    (from 5 equal) (reads 0 0 Endless false 0)
    ∷ run_by2014 (empty ∷ align 0 ∷ terminal a ∷ indent 2 greater ∷ sequence 1 3 ∷ repeat 4 ∷ []) []
    (a at 0 ∷ a at 0 ∷ [])
    (from 5 equal) (reads 2 0 (At 0) false 2)
    ∷ []
