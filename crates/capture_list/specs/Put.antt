-- Captures in a lent slice (02, Note 2): the count, when it is put back, where nothing is listed, one capture put at its place,
-- zeros from an index on.
use Rattle.std.specs.Prelude.{ℕ, ◌+◌, ◌-◌, ◌*◌, ◌/◌, ◌^◌, min, Bool, true, cond, List, ◌++◌, length, set, take, replicate, ltb, eqb}
use Rattle.columns.specs.declared.Capture.{Capture}
use Rattle.columns.specs.declared.Outcome.{Outcome}
use Rattle.columns.specs.declared.Outcome.TheVariants.{Success, Failure}
use Rattle.capture_list.specs.declared.Counts.{Counts}

-- Where the count of captures stops; a choice of ours, above the places of every slice.
abbrev pub most_count : ℕ
most_count = 2 ^ 62

-- One capture more.
abbrev pub one_more : ℕ → ℕ
one_more n = min (n + 1) most_count

-- Whether the captures of what was walked first in a node of kind q are put back: "outside any not, any failed alternative
-- and a repeat's last, failed round". Kind 5 is a not.
abbrev pub puts_back : ℕ → Outcome → Bool
puts_back q (Success u) = eqb q 5
puts_back q (Failure farthest) = true

-- Whether nothing is listed inside a node of kind q, with n captures so far: it is a not, or the count has stopped.
abbrev pub quiet_in : ℕ → ℕ → Bool
quiet_in q n = cond (eqb n most_count) true (eqb q 5)

-- The counts inside a node of kind q: in a not the count has stopped.
abbrev pub hushed : ℕ → Counts → Counts
hushed q counts = cond (eqb q 5) (record { around = counts.around; so_far = most_count }) counts

-- A slice with a capture's four words at place n.
abbrev pub placed : ℕ → Capture → List ℕ → List ℕ
placed n c words =
    set (set (set (set words (n * 4) c.rule) (n * 4 + 1) c.first) (n * 4 + 2) c.after) (n * 4 + 3) c.around

-- The same where the slice has that place, and the slice as it is where not.
unfoldable pub capture_put : ℕ → Capture → List ℕ → List ℕ
capture_put n c words = cond (ltb n (length words / 4)) (placed n c words) words

-- Zeros from an index on.
unfoldable pub cleared_from : ℕ → List ℕ → List ℕ
cleared_from from words = take from words ++ replicate (length words - from) 0
