-- Numbers 3, 4 and 5 of a table and its rules (01, "The grammar table" and "Turned-down calls").
use Rattle.std.specs.Prelude.{ℕ, zero, suc, ◌%◌, Result, Bool, false, not, ◌&&◌, ◌||◌, List, length, leb, ltb, eqb}
use Rattle.table.specs.Answer.{Answer, given, refuse_if}
use Rattle.table.specs.Refusals.{answer_by}
use Rattle.table.specs.declared.refusals.Refusal.{Refusal}
use Rattle.table.specs.Every.{every}
use Rattle.table.specs.Limits.{most_nodes, most_rules, last_terminal, relation_count}
use Rattle.table.specs.Form.{kind_of, a_of, b_of, relation_of, node_count, stands_for}

-- 3: "node words no multiple of 4, node or rule count outside the limits"
unfoldable pub fails3 : List ℕ → List ℕ → Bool
fails3 nodes rules =
    not (eqb (length nodes % 4) 0)
    || not (leb 1 (node_count nodes) && leb (node_count nodes) most_nodes)
    || ltb most_rules (length rules)

-- "Unused words are 0."
abbrev pub unused : ℕ → Bool
unused word = eqb word 0

-- "A child node has a lower number than its parent": child and parent.
abbrev pub lower : ℕ → ℕ → Bool
lower child n = ltb child n

-- Whether a relation, or a mode, is one of those there are: "Numbers 4, 5 and 12 begin at relation or mode 35" (02, note 1).
abbrev pub is_relation : ℕ → Bool
is_relation r = ltb r relation_count

-- Whether kind, a, b and relation are right for node n in a table with so many rules: 01's table of kinds, a line a kind.
unfoldable pub right_words : ℕ → ℕ → ℕ → ℕ → ℕ → ℕ → Bool
right_words rules n zero a b r = unused a && unused b && unused r  -- empty
right_words rules n (suc zero) a b r = leb a last_terminal && unused b && unused r  -- terminal
right_words rules n (suc (suc zero)) a b r = ltb a rules && unused b && unused r  -- rule
right_words rules n (suc (suc (suc zero))) a b r = lower a n && lower b n && unused r  -- sequence
right_words rules n (suc (suc (suc (suc zero)))) a b r = lower a n && lower b n && unused r  -- choice
right_words rules n (suc (suc (suc (suc (suc zero))))) a b r = lower a n && unused b && unused r  -- not
right_words rules n (suc (suc (suc (suc (suc (suc zero)))))) a b r = lower a n && unused b && unused r  -- repeat
right_words rules n (suc (suc (suc (suc (suc (suc (suc zero))))))) a b r = lower a n && unused b && is_relation r  -- indent
right_words rules n (suc (suc (suc (suc (suc (suc (suc (suc zero)))))))) a b r = lower a n && unused b && is_relation r  -- position
right_words rules n (suc (suc (suc (suc (suc (suc (suc (suc (suc zero))))))))) a b r = lower a n && unused b && unused r  -- align
right_words rules n (suc (suc (suc (suc (suc (suc (suc (suc (suc (suc k)))))))))) a b r = false  -- no kind

-- Whether node n's words are right.
abbrev pub right_node : List ℕ → List ℕ → ℕ → Bool
right_node nodes rules n = right_words (length rules) n (kind_of nodes n) (a_of nodes n) (b_of nodes n) (relation_of nodes n)

-- 4: "kind over 9, child not lower ..": some node's words are not right.
unfoldable pub fails4 : List ℕ → List ℕ → Bool
fails4 nodes rules = not (every (node_count nodes) (right_node nodes rules))

-- 5: "a rule's node .. not in the table"
unfoldable pub fails5 : List ℕ → List ℕ → Bool
fails5 nodes rules = not (every (length rules) (λ r. ltb (stands_for rules r) (node_count nodes)))

-- The first of 3, 4 and 5 that fails, or none.
unfoldable pub table_answer : List ℕ → List ℕ → Answer Unit
table_answer nodes rules =
    refuse_if (fails3 nodes rules) 3
    (refuse_if (fails4 nodes rules) 4
    (refuse_if (fails5 nodes rules) 5
    (given tt)))

-- The answer of a check that gives nothing.
abbrev pub numbers : Result Unit Refusal → Answer Unit
numbers = answer_by (λ x. x)
