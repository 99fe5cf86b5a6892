-- The ten forms of an expression, and how a table's words stand for them (01, "The grammar table").
-- A table is the list of its words, "four words a node: kind, a, b, relation", and "nodes count from 0".
use Rattle.std.specs.Prelude.{ℕ, zero, suc, ◌+◌, ◌*◌, ◌/◌, List, length, get_or}

-- The forms in 01's order. Terminals, rules, nodes and relations are numbers.
pub data Form : Type 0 where
  empty : Form
  terminal : ℕ → Form
  rule : ℕ → Form
  sequence choice : ℕ → ℕ → Form
  not repeat : ℕ → Form
  indent position : ℕ → ℕ → Form
  align : ℕ → Form
  other : Form

-- 01's table of kinds: kind, a, b, relation. A kind over 9 is no form (`other`).
abbrev pub decode : ℕ → ℕ → ℕ → ℕ → Form
decode zero a b r = empty  -- 0
decode (suc zero) a b r = terminal a  -- 1
decode (suc (suc zero)) a b r = rule a  -- 2
decode (suc (suc (suc zero))) a b r = sequence a b  -- 3
decode (suc (suc (suc (suc zero)))) a b r = choice a b  -- 4
decode (suc (suc (suc (suc (suc zero))))) a b r = not a  -- 5
decode (suc (suc (suc (suc (suc (suc zero)))))) a b r = repeat a  -- 6
decode (suc (suc (suc (suc (suc (suc (suc zero))))))) a b r = indent a r  -- 7
decode (suc (suc (suc (suc (suc (suc (suc (suc zero)))))))) a b r = position a r  -- 8
decode (suc (suc (suc (suc (suc (suc (suc (suc (suc zero))))))))) a b r = align a  -- 9
decode (suc (suc (suc (suc (suc (suc (suc (suc (suc (suc k)))))))))) a b r = other  -- over 9

-- The first word of node n: its kind.
abbrev pub kind_of : List ℕ → ℕ → ℕ
kind_of nodes n = get_or nodes (n * 4) 0

-- The second: a.
abbrev pub a_of : List ℕ → ℕ → ℕ
a_of nodes n = get_or nodes (n * 4 + 1) 0

-- The third: b.
abbrev pub b_of : List ℕ → ℕ → ℕ
b_of nodes n = get_or nodes (n * 4 + 2) 0

-- The fourth: its relation.
abbrev pub relation_of : List ℕ → ℕ → ℕ
relation_of nodes n = get_or nodes (n * 4 + 3) 0

-- The form of node n.
unfoldable pub form : List ℕ → ℕ → Form
form nodes n = decode (kind_of nodes n) (a_of nodes n) (b_of nodes n) (relation_of nodes n)

-- How many nodes a table has.
abbrev pub node_count : List ℕ → ℕ
node_count nodes = length nodes / 4

-- "A second u16 slice holds for each rule the node .."
abbrev pub stands_for : List ℕ → ℕ → ℕ
stands_for rules r = get_or rules r 0
