-- The limits of tables and tokens (01, "The grammar table" and "The scanner"). The code has a constant beside each
-- (`crates/table/src/lib.rt`).
use Rattle.std.specs.Prelude.{ℕ}

-- "1 to 512 nodes"
abbrev pub most_nodes : ℕ
most_nodes = 512

-- "0 to 128 rules"
abbrev pub most_rules : ℕ
most_rules = 128

-- "terminal, 0 to 255"
abbrev pub last_terminal : ℕ
last_terminal = 255

-- How many relations there are: "0 equal, 1 greater, 2 at least, 3 any", and "4 to 34" (02, note 1). The same numbers are
-- token modes.
abbrev pub relation_count : ℕ
relation_count = 35

-- "At most 4,096 tokens"
abbrev pub most_tokens : ℕ
most_tokens = 4096

-- "columns at most 65,535"
abbrev pub most_column : ℕ
most_column = 65535
