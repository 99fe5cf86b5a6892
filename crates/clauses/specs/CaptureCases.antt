-- Runs that list their captures, in one table, with the answers that 02, Notes 2 and 7, give. A case is a run (nodes, rules,
-- tokens, start) and the lent words before it; expected are its answer, by `list_answer`, and the words afterwards, by
-- `list_after`. `CaptureCasesHold`, in proofs, computes them all.
use Rattle.std.specs.Prelude.{ℕ, false, List, [], ◌∷◌, ◌++◌, length, replicate}
use Rattle.table.specs.Answer.{Answer, given, refused, refused_at}
use Rattle.table.specs.Words.{each_words}
use Rattle.table.specs.Form.{Form, empty, terminal, rule, sequence, choice, not, repeat, indent, position, align}
use Rattle.columns.specs.Relations.{equal, greater, at_least}
use Rattle.columns.specs.Intervals.{to}
use Rattle.columns.specs.declared.Upper.TheVariants.{At, Endless}
use Rattle.columns.specs.declared.Start.{Start}
use Rattle.columns.specs.declared.Reading.{Reading}
use Rattle.columns.specs.declared.Reading.TheVariants.{By2017, By2014}
use Rattle.clauses.specs.RunAnswer.{Ended}
use Rattle.clauses.specs.ListAnswer.{Listing, list_answer, list_after}
use Rattle.clauses.specs.Cases.{four_words, TokenAt, ◌at◌, token_words, reads, fails, from, from_place, a, b, c}

-- What a run that lists answers, and the lent words afterwards.
pub record Listed : Type 0 where
  pub answer : Answer Listing
  pub afterwards : List ℕ

-- A run with the words lent to it, by 2017 or by 2014, and what is expected of it.
pub data CaptureCase : Type 0 where
  lists :
      (nodes : List Form) (rules : List ℕ) (tokens : List TokenAt) (start : Start) (before : List ℕ)
      (expected : Answer Listing) (afterwards : List ℕ)
      → CaptureCase
  lists_by2014 :
      (nodes : List Form) (rules : List ℕ) (tokens : List TokenAt) (start : Start) (before : List ℕ)
      (expected : Answer Listing) (afterwards : List ℕ)
      → CaptureCase

abbrev pub expected : CaptureCase → Listed
expected (lists nodes rules tokens start before answer afterwards) = record { answer = answer; afterwards = afterwards }
expected (lists_by2014 nodes rules tokens start before answer afterwards) = record { answer = answer; afterwards = afterwards }

-- The answer of a run by a reading, and the lent words afterwards.
abbrev pub listing_by : Reading → List Form → List ℕ → List TokenAt → Start → List ℕ → Listed
listing_by reading nodes rules tokens start before =
    let table = each_words four_words nodes in
    let words = each_words token_words tokens in
    record {
      answer = list_answer reading table rules words start (length before);
      afterwards = list_after reading table rules words start before;
    }

unfoldable pub listing : CaptureCase → Listed
listing (lists nodes rules tokens start before answer afterwards) = listing_by By2017 nodes rules tokens start before
listing (lists_by2014 nodes rules tokens start before answer afterwards) = listing_by By2014 nodes rules tokens start before

-- An end with so many captures.
abbrev pub counting : ℕ → Answer Ended → Answer Listing
counting n (given e) = given (record { ended = e; count = n })
counting n (refused number) = refused number
counting n (refused_at number node) = refused_at number node

-- So many lent words before the run, none of them 0; so many words that are 0.
abbrev pub nines : ℕ → List ℕ
nines n = replicate n 9

abbrev pub zeros : ℕ → List ℕ
zeros n = replicate n 0

-- "A capture is four words ..: rule, first token, token after the last, and the number of captures around it".
abbrev pub capture : (x first after around : ℕ) → List ℕ
capture x first after around = x ∷ first ∷ after ∷ around ∷ []

-- "every rule that succeeded on the way to the final success"; "an outer one stands before those inside it, and otherwise they
-- stand in the order in which they were read".
unfoldable pub listed_cases : List CaptureCase
listed_cases =
    -- Rule 0 is rule 1 twice, rule 1 is rule 2, rule 2 is a; from a node that is rule 0, on a a.
    lists (terminal a ∷ rule 2 ∷ rule 1 ∷ sequence 2 2 ∷ rule 0 ∷ []) (3 ∷ 1 ∷ 0 ∷ []) (a at 0 ∷ a at 0 ∷ [])
    (from 4 equal) (nines 20) (counting 5 (reads 2 0 (At 0) false 1))
    (capture 0 0 2 0 ++ capture 1 0 1 1 ++ capture 2 0 1 2 ++ capture 1 1 2 1 ++ capture 2 1 2 2)
    -- From the node that rule 0 stands for, rule 0 is no capture, and the others have one fewer around them.
    ∷ lists (terminal a ∷ rule 2 ∷ rule 1 ∷ sequence 2 2 ∷ rule 0 ∷ []) (3 ∷ 1 ∷ 0 ∷ []) (a at 0 ∷ a at 0 ∷ [])
    (from 3 equal) (nines 20) (counting 4 (reads 2 0 (At 0) false 1))
    (capture 1 0 1 0 ++ capture 2 0 1 1 ++ capture 1 1 2 0 ++ capture 2 1 2 1 ++ zeros 4)
    -- From the node that rule 2 stands for: none.
    ∷ lists (terminal a ∷ rule 2 ∷ rule 1 ∷ sequence 2 2 ∷ rule 0 ∷ []) (3 ∷ 1 ∷ 0 ∷ []) (a at 0 ∷ a at 0 ∷ [])
    (from 0 equal) (nines 4) (counting 0 (reads 1 0 (At 0) false 0)) (zeros 4)
    -- A repeat of rule 0, which is a, on a a b: two rounds; the third fails.
    ∷ lists (terminal a ∷ rule 0 ∷ repeat 1 ∷ []) (0 ∷ []) (a at 0 ∷ a at 0 ∷ b at 0 ∷ []) (from 2 equal) (nines 12)
    (counting 2 (reads 2 0 (At 0) false 2)) (capture 0 0 1 0 ++ capture 0 1 2 0 ++ zeros 4)
    -- Rule 0 is (a rule 0) / ε, on a a: what a first alternative captured is listed.
    ∷ lists (terminal a ∷ rule 0 ∷ sequence 0 1 ∷ empty ∷ choice 2 3 ∷ []) (4 ∷ []) (a at 0 ∷ a at 0 ∷ []) (from 1 equal)
    (nines 12)
    (counting 3 (reads 2 0 (At 0) false 2)) (capture 0 0 2 0 ++ capture 0 1 2 1 ++ capture 0 2 2 2)
    -- Under an align, an indent and a position, which are no captures.
    ∷ lists (terminal a ∷ rule 0 ∷ align 1 ∷ indent 2 greater ∷ position 3 at_least ∷ []) (0 ∷ []) (a at 1 ∷ [])
    (from 4 equal) (nines 4) (counting 1 (reads 1 0 (At 0) false 0)) (capture 0 0 1 0)
    -- A rule that reads no token: rule 0 is ε, behind a.
    ∷ lists (terminal a ∷ empty ∷ rule 0 ∷ sequence 0 2 ∷ []) (1 ∷ []) (a at 0 ∷ []) (from 3 equal) (nines 4)
    (counting 1 (reads 1 0 (At 0) false 0)) (capture 0 1 1 0)
    -- And one inside another: rule 1 is rule 0.
    ∷ lists (empty ∷ rule 0 ∷ rule 1 ∷ []) (0 ∷ 1 ∷ []) [] (from 2 equal) (nines 8)
    (counting 2 (reads 0 0 Endless false 0)) (capture 1 0 0 0 ++ capture 0 0 0 1)
    -- From place 1, and from place 2 behind the last token: places are places in the token list.
    ∷ lists (rule 0 ∷ terminal b ∷ []) (1 ∷ []) (a at 5 ∷ b at 7 ∷ []) (from_place 1) (nines 4)
    (counting 1 (reads 2 0 (At 6) false 1)) (capture 0 1 2 0)
    ∷ lists (rule 0 ∷ empty ∷ []) (1 ∷ []) (a at 5 ∷ b at 7 ∷ []) (from_place 2) (nines 4)
    (counting 1 (reads 2 0 Endless false 2)) (capture 0 2 2 0)
    ∷ []

-- "outside any not, any failed alternative and a repeat's last, failed round"; "a failure lists none".
unfoldable pub dropped_cases : List CaptureCase
dropped_cases =
    -- (X b) / Y where X and Y are a, on a: X was read, b was not.
    lists (terminal a ∷ terminal b ∷ rule 0 ∷ sequence 2 1 ∷ rule 1 ∷ choice 3 4 ∷ []) (0 ∷ 0 ∷ []) (a at 0 ∷ [])
    (from 5 equal) (nines 8) (counting 1 (reads 1 0 (At 0) false 1)) (capture 1 0 1 0 ++ zeros 4)
    -- X ((X c) / X), on a a: what was read before the choice stays.
    ∷ lists (terminal a ∷ terminal c ∷ rule 0 ∷ sequence 2 1 ∷ choice 3 2 ∷ sequence 2 4 ∷ []) (0 ∷ []) (a at 0 ∷ a at 0 ∷ [])
    (from 5 equal) (nines 12) (counting 2 (reads 2 0 (At 0) false 2)) (capture 0 0 1 0 ++ capture 0 1 2 0 ++ zeros 4)
    -- (X X b) / Y: the first alternative held two captures, the list has one, and there is room for one.
    ∷ lists (terminal a ∷ terminal b ∷ rule 0 ∷ sequence 2 1 ∷ sequence 2 3 ∷ rule 1 ∷ choice 4 5 ∷ []) (0 ∷ 0 ∷ [])
    (a at 0 ∷ a at 0 ∷ []) (from 6 equal) (nines 4) (counting 1 (reads 1 0 (At 0) false 2)) (capture 1 0 1 0)
    -- !(X b) X: X inside the not was read, and so was X behind it.
    ∷ lists (terminal a ∷ terminal b ∷ rule 0 ∷ sequence 2 1 ∷ not 3 ∷ sequence 4 2 ∷ []) (0 ∷ []) (a at 0 ∷ [])
    (from 5 equal) (nines 8) (counting 1 (reads 1 0 (At 0) false 1)) (capture 0 0 1 0 ++ zeros 4)
    -- !!X Y: X inside two nots was read, and is not listed.
    ∷ lists (terminal a ∷ rule 0 ∷ not 1 ∷ not 2 ∷ rule 1 ∷ sequence 3 4 ∷ []) (0 ∷ 0 ∷ []) (a at 0 ∷ []) (from 5 equal) (nines 8)
    (counting 1 (reads 1 0 (At 0) false 0)) (capture 1 0 1 0 ++ zeros 4)
    -- Rule 0 is (Y b)*, rule 1, Y, is a; on a b a b a: the third round read Y and failed.
    ∷ lists (terminal a ∷ terminal b ∷ rule 1 ∷ sequence 2 1 ∷ repeat 3 ∷ rule 0 ∷ []) (4 ∷ 0 ∷ [])
    (a at 0 ∷ b at 0 ∷ a at 0 ∷ b at 0 ∷ a at 0 ∷ []) (from 5 equal) (nines 16)
    (counting 3 (reads 4 0 (At 0) false 5)) (capture 0 0 4 0 ++ capture 1 0 1 1 ++ capture 1 2 3 1 ++ zeros 4)
    -- X b fails on a a, with X read; with room, with none.
    ∷ lists (terminal a ∷ terminal b ∷ rule 0 ∷ sequence 2 1 ∷ []) (0 ∷ []) (a at 0 ∷ a at 0 ∷ []) (from 3 equal) (nines 6)
    (counting 0 (fails 1)) (zeros 6)
    ∷ lists (terminal a ∷ terminal b ∷ rule 0 ∷ sequence 2 1 ∷ []) (0 ∷ []) (a at 0 ∷ a at 0 ∷ []) (from 3 equal) []
    (counting 0 (fails 1)) []
    ∷ []

-- Rule 0 is a; from a node that is rule 0, on a: one capture.
abbrev pub one : List ℕ → Answer Listing → List ℕ → CaptureCase
one before answer after = lists (terminal a ∷ rule 0 ∷ []) (0 ∷ []) (a at 0 ∷ []) (from 1 equal) before answer after

-- The same, on no token, where rule 0 is ε: one capture, whose words are all 0.
abbrev pub one_empty : List ℕ → Answer Listing → List ℕ → CaptureCase
one_empty before answer after = lists (empty ∷ rule 0 ∷ []) (0 ∷ []) [] (from 1 equal) before answer after

-- ε itself: no capture.
abbrev pub none : List ℕ → Answer Listing → List ℕ → CaptureCase
none before answer after = lists (empty ∷ rule 0 ∷ []) (0 ∷ []) [] (from 0 equal) before answer after

-- "13, fewer capture places than the list needs", and "the slice's words past the list are 0".
unfoldable pub room_cases : List CaptureCase
room_cases =
    -- Room for one, and for more.
    one (nines 4) (counting 1 (reads 1 0 (At 0) false 0)) (capture 0 0 1 0)
    ∷ one (nines 8) (counting 1 (reads 1 0 (At 0) false 0)) (capture 0 0 1 0 ++ zeros 4)
    -- A place is four words: with 5 there is one place and a word past the list, with 3 and with none there is no place.
    ∷ one (nines 5) (counting 1 (reads 1 0 (At 0) false 0)) (capture 0 0 1 0 ++ zeros 1)
    ∷ one (nines 3) (refused 13) (nines 3)
    ∷ one [] (refused 13) []
    -- A list of none needs no place.
    ∷ none (nines 3) (counting 0 (reads 0 0 Endless false 0)) (zeros 3)
    ∷ none [] (counting 0 (reads 0 0 Endless false 0)) []
    -- A capture of four zeros, and none: the number tells them apart.
    ∷ one_empty (nines 4) (counting 1 (reads 0 0 Endless false 0)) (zeros 4)
    ∷ none (nines 4) (counting 0 (reads 0 0 Endless false 0)) (zeros 4)
    -- Two captures, with room for two, and one place or one word short.
    ∷ lists (terminal a ∷ rule 0 ∷ repeat 1 ∷ []) (0 ∷ []) (a at 0 ∷ a at 0 ∷ []) (from 2 equal) (nines 8)
    (counting 2 (reads 2 0 (At 0) false 2)) (capture 0 0 1 0 ++ capture 0 1 2 0)
    ∷ lists (terminal a ∷ rule 0 ∷ repeat 1 ∷ []) (0 ∷ []) (a at 0 ∷ a at 0 ∷ []) (from 2 equal) (nines 4) (refused 13) (nines 4)
    ∷ lists (terminal a ∷ rule 0 ∷ repeat 1 ∷ []) (0 ∷ []) (a at 0 ∷ a at 0 ∷ []) (from 2 equal) (nines 7) (refused 13) (nines 7)
    ∷ []

-- "13 .. after 12": runs with one capture and no place for it that 7, 11 and 12 refuse; nothing is written.
unfoldable pub refused_cases : List CaptureCase
refused_cases =
    -- Rule 1 is itself, and is not entered.
    lists (empty ∷ rule 0 ∷ rule 1 ∷ []) (0 ∷ 2 ∷ []) [] (from 1 equal) (nines 3) (refused_at 7 2) (nines 3)
    ∷ lists (empty ∷ rule 0 ∷ []) (0 ∷ []) (256 at 0 ∷ []) (from 1 equal) (nines 3) (refused 11) (nines 3)
    ∷ lists (empty ∷ rule 0 ∷ []) (0 ∷ []) [] (record { node = 1; place = 0; interval = to 5 (At 4); flag = false; mode = equal })
    (nines 3) (refused 12) (nines 3)
    -- With room it is refused too.
    ∷ lists (empty ∷ rule 0 ∷ []) (0 ∷ []) [] (from 1 35) (nines 8) (refused 12) (nines 8)
    ∷ []
