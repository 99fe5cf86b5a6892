-- The line of an answer (01, "Bench cases", last paragraph; 02, Note 7): its bytes, and a lent slice that it is written to.
use Rattle.std.specs.Prelude.{ℕ, zero, suc, ◌+◌, ◌/◌, ◌%◌, Bool, true, false, cond, List, [], ◌∷◌, ◌++◌, length, drop, ltb}
use Rattle.table.specs.Answer.{Answer, given, refused, refused_at}
use Rattle.columns.specs.declared.Upper.{Upper}
use Rattle.columns.specs.declared.Upper.TheVariants.{At, Endless}
use Rattle.columns.specs.declared.Interval.{Interval}
use Rattle.clauses.specs.Clauses.{Outcome, success, failure}
use Rattle.clauses.specs.RunAnswer.{Ended}

-- A number in decimal digits, at most so many: those of its tenth, if it is 10 or more, and the last one.
unfoldable pub decimal_to : ℕ → ℕ → List ℕ
decimal_to zero n = []
decimal_to (suc most) n = cond (ltb n 10) ((48 + n) ∷ []) (decimal_to most (n / 10) ++ ((48 + n % 10) ∷ []))

-- In decimal: a number of 32 bits has ten digits at most.
abbrev pub decimal : ℕ → List ℕ
decimal n = decimal_to 10 n

-- `success`, in ASCII.
abbrev pub success_word : List ℕ
success_word = 115 ∷ 117 ∷ 99 ∷ 99 ∷ 101 ∷ 115 ∷ 115 ∷ []

-- `failure`.
abbrev pub failure_word : List ℕ
failure_word = 102 ∷ 97 ∷ 105 ∷ 108 ∷ 117 ∷ 114 ∷ 101 ∷ []

-- `refused`.
abbrev pub refused_word : List ℕ
refused_word = 114 ∷ 101 ∷ 102 ∷ 117 ∷ 115 ∷ 101 ∷ 100 ∷ []

-- "One space parts the words"
abbrev pub space : List ℕ
space = 32 ∷ []

-- ".. and a line break ends the line"
abbrev pub break : List ℕ
break = 10 ∷ []

-- "upper end (`inf` if none)"
abbrev pub upper_word : Upper → List ℕ
upper_word (At h) = decimal h
upper_word Endless = 105 ∷ 110 ∷ 102 ∷ []

-- The flag: `set` or `clear`.
abbrev pub flag_word : Bool → List ℕ
flag_word true = 115 ∷ 101 ∷ 116 ∷ []
flag_word false = 99 ∷ 108 ∷ 101 ∷ 97 ∷ 114 ∷ []

-- "it prints `success 4 0 1 clear` ..": tokens read, lower end, upper end, flag; "Otherwise `failure` ..". The run begins at
-- place 0, so its end place is the number of tokens read. The farthest place is "one more number at the end of a success or
-- failure line".
abbrev pub end_bytes : Outcome Interval → (farthest : ℕ) → List ℕ
end_bytes (success s) farthest =
    success_word
    ++ space
    ++ decimal s.0
    ++ space
    ++ decimal s.1.lower
    ++ space
    ++ upper_word s.1.upper
    ++ space
    ++ flag_word s.2
    ++ (space ++ decimal farthest ++ break)
end_bytes failure farthest = failure_word ++ space ++ decimal farthest ++ break

-- The line of an answer: ".. or `refused` with the lowest number ..".
abbrev pub line_bytes : Answer Ended → List ℕ
line_bytes (given e) = end_bytes e.outcome e.farthest
line_bytes (refused number) = refused_word ++ space ++ decimal number ++ break
line_bytes (refused_at number node) = refused_word ++ space ++ decimal number ++ space ++ decimal node ++ break

-- How many bytes are written to a slice of so many that must have some room: all of them, or none where it has less.
abbrev pub count_in : (room : ℕ) → List ℕ → (lent : ℕ) → ℕ
count_in room bytes lent = cond (ltb lent room) 0 (length bytes)

-- The slice afterwards: the bytes, and behind them what was there; as it was where it has less room.
abbrev pub slice_in : (room : ℕ) → List ℕ → (before : List ℕ) → List ℕ
slice_in room bytes before = cond (ltb (length before) room) before (bytes ++ drop (length bytes) before)

-- Room enough for every line, in bytes; a choice of ours.
abbrev pub room : ℕ
room = 64

-- The line of an answer in a lent slice: how many bytes are written, and the slice afterwards.
unfoldable pub written_count : Answer Ended → ℕ → ℕ
written_count answer lent = count_in room (line_bytes answer) lent

unfoldable pub written_after : Answer Ended → List ℕ → List ℕ
written_after answer before = slice_in room (line_bytes answer) before
