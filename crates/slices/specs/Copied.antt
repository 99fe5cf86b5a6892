-- What a lent slice holds after bytes were copied to it, or put into it from an index on.
use Rattle.std.specs.Prelude.{ℕ, ◌+◌, cond, List, ◌++◌, ltb, length, take, drop}

-- The bytes, and behind them what was there; as it was where it is too short.
abbrev pub copied : List ℕ → List ℕ → List ℕ
copied bytes before = cond (ltb (length before) (length bytes)) before (bytes ++ drop (length bytes) before)

-- The bytes from an index on, and before and behind them what was there.
abbrev pub over : ℕ → List ℕ → List ℕ → List ℕ
over at bytes before = take at before ++ bytes ++ drop (at + length bytes) before

-- The same; as it was where it is too short.
abbrev pub placed : ℕ → List ℕ → List ℕ → List ℕ
placed at bytes before = cond (ltb (length before) (at + length bytes)) before (over at bytes before)
