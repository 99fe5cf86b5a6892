-- Captures that 14 refuses, each beside one that it takes (02, Note 2). A case is a number of rules, a number of bytes, the
-- tokens' words and a capture. `CaptureChecksCasesHold`, in proofs, computes them all.
use Rattle.std.specs.Prelude.{ℕ, Bool, true, false, List, [], ◌∷◌, ◌++◌}
use Rattle.columns.specs.declared.Capture.{Capture}
use Rattle.capture_checks.specs.Fourteen.{fails14}

-- A call of `fails14` that is expected to take its capture, or to refuse it.
pub data FourteenCase : Type 0 where
  takes : (rules bytes : ℕ) (words : List ℕ) (c : Capture) → FourteenCase
  refuses : (rules bytes : ℕ) (words : List ℕ) (c : Capture) → FourteenCase

abbrev pub expected : FourteenCase → Bool
expected (takes rules bytes words c) = false
expected (refuses rules bytes words c) = true

unfoldable pub answered : FourteenCase → Bool
answered (takes rules bytes words c) = fails14 rules bytes words c
answered (refuses rules bytes words c) = fails14 rules bytes words c

-- The four words of a token; 14 does not look at the first two.
abbrev pub token : (offset length : ℕ) → List ℕ
token offset length = 2 ∷ 0 ∷ offset ∷ length ∷ []

abbrev pub capture : (rule first after around : ℕ) → Capture
capture rule first after around = record { rule = rule; first = first; after = after; around = around }

-- Three tokens, the last of which ends at 10.
abbrev pub three : List ℕ
three = token 0 2 ++ token 3 2 ++ token 6 4

-- Four, of which only the third has a lower offset than the one before it.
abbrev pub fallen : List ℕ
fallen = token 0 1 ++ token 5 1 ++ token 4 1 ++ token 6 1

-- "a capture whose rule .."
unfoldable pub rule_cases : List FourteenCase
rule_cases =
    takes 3 10 three (capture 2 0 3 0)
    ∷ refuses 3 10 three (capture 3 0 3 0)
    ∷ takes 1 10 three (capture 0 0 3 0)
    ∷ refuses 0 10 three (capture 0 0 3 0)
    -- The number of captures around it is not looked at.
    ∷ takes 1 10 three (capture 0 0 3 4294967295)
    ∷ []

-- "or tokens are not there": up to the count, and past it by one.
unfoldable pub token_cases : List FourteenCase
token_cases =
    takes 1 10 (token 0 1) (capture 0 0 1 0)
    ∷ refuses 1 10 (token 0 1) (capture 0 0 2 0)
    ∷ refuses 1 10 (token 0 1) (capture 0 1 2 0)
    ∷ []

-- "whose first token comes after the token that follows it (the two may be equal, at the token count too)".
unfoldable pub order_cases : List FourteenCase
order_cases =
    -- Equal: at 0, before the last token, at the count, past it.
    takes 1 10 three (capture 0 0 0 0)
    ∷ takes 1 10 three (capture 0 2 2 0)
    ∷ takes 1 10 three (capture 0 3 3 0)
    ∷ refuses 1 10 three (capture 0 4 4 0)
    -- The same of no tokens.
    ∷ takes 1 0 [] (capture 0 0 0 0)
    ∷ refuses 1 0 [] (capture 0 1 1 0)
    -- One after: at the start, at the count, past it.
    ∷ refuses 1 10 three (capture 0 1 0 0)
    ∷ refuses 1 10 three (capture 0 3 2 0)
    ∷ refuses 1 10 three (capture 0 4 3 0)
    ∷ []

-- "or whose tokens' offsets fall".
unfoldable pub offset_cases : List FourteenCase
offset_cases =
    -- Two tokens: rising, equal, falling.
    takes 1 10 (token 3 1 ++ token 4 1) (capture 0 0 2 0)
    ∷ takes 1 10 (token 3 1 ++ token 3 1) (capture 0 0 2 0)
    ∷ refuses 1 10 (token 3 1 ++ token 2 1) (capture 0 0 2 0)
    -- The first offset is below the last, and a pair between them falls.
    ∷ refuses 1 10 fallen (capture 0 0 4 0)
    -- That pair as the last of a capture, the only one, the first.
    ∷ refuses 1 10 fallen (capture 0 0 3 0)
    ∷ refuses 1 10 fallen (capture 0 1 3 0)
    ∷ refuses 1 10 fallen (capture 0 1 4 0)
    -- It falls, but not inside the capture: its first token is the last of one, its second the first of another.
    ∷ takes 1 10 fallen (capture 0 0 2 0)
    ∷ takes 1 10 fallen (capture 0 2 4 0)
    ∷ []

-- "or whose last token ends past the report".
unfoldable pub end_cases : List FourteenCase
end_cases =
    -- At the report's end, and one past it.
    takes 1 10 three (capture 0 0 3 0)
    ∷ refuses 1 9 three (capture 0 0 3 0)
    ∷ takes 1 10 (token 10 0) (capture 0 0 1 0)
    ∷ refuses 1 10 (token 11 0) (capture 0 0 1 0)
    -- The end is a sum that may need more than 32 bits.
    ∷ refuses 1 65535 (token 1 4294967295) (capture 0 0 1 0)
    ∷ takes 1 4294967296 (token 1 4294967295) (capture 0 0 1 0)
    -- Only the last token's end counts: not that of a token before it, nor of one behind the capture.
    ∷ takes 1 10 (token 0 11 ++ token 1 1) (capture 0 0 2 0)
    ∷ takes 1 5 three (capture 0 0 2 0)
    -- And not that of the token before a capture that read none.
    ∷ takes 1 0 three (capture 0 2 2 0)
    ∷ takes 1 0 three (capture 0 3 3 0)
    ∷ []
