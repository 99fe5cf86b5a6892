-- The words that rule and node fields stand for (01, "The grammar file"), and what writing them does to lent slices.
use Rattle.std.specs.Prelude.{ℕ, Bool, ◌||◌, List, [], ◌∷◌, map, length, get_or, ltb}
use Rattle.table.specs.Words.{each_words}
use Rattle.table.specs.Answer.{given, refuse_if, afterwards}
use Rattle.file_fields.specs.Fields.{Field, two_bytes}
use Rattle.file_fields.specs.Offsets.{fields_from}
use Rattle.file_fields.specs.declared.Group.{Group}

-- "tag 3, a rule: two-byte node number, then its name"
abbrev pub rule_node : Field → ℕ
rule_node f = two_bytes (get_or f.value 0 0) (get_or f.value 1 0)

-- "tag 4, a node: kind (one byte), a (two), b (two), relation (one)": its four words.
abbrev pub four_words : Field → List ℕ
four_words f =
    get_or f.value 0 0
    ∷ two_bytes (get_or f.value 1 0) (get_or f.value 2 0)
    ∷ two_bytes (get_or f.value 3 0) (get_or f.value 4 0)
    ∷ get_or f.value 5 0
    ∷ []

-- The words of node fields, one field behind the other.
abbrev pub words_of : List Field → List ℕ
words_of fs = each_words four_words fs

-- Whether one of two slices, lent for nodes and for rules, has too few words.
unfoldable pub too_short : List ℕ → List ℕ → ℕ → ℕ → Bool
too_short nodes rules nodes_lent rules_lent = ltb nodes_lent (length nodes) || ltb rules_lent (length rules)

-- What a slice holds afterwards: as after a call that is refused by 6 where one of the two is too short.
abbrev pub written : Bool → List ℕ → List ℕ → List ℕ
written short words before = afterwards {A = Unit} (refuse_if short 6 (given tt)) words before

-- The words that the node fields of a group stand for, and the nodes of the rule fields of one.
abbrev pub node_words : List ℕ → Group → List ℕ
node_words file g = words_of (fields_from file g.at g.count)

abbrev pub rule_nodes : List ℕ → Group → List ℕ
rule_nodes file g = map rule_node (fields_from file g.at g.count)

-- Whether one of two lent slices is too short for the fields of two groups.
abbrev pub lacks_room : List ℕ → Group → Group → List ℕ → List ℕ → Bool
lacks_room file nodes rules words list =
    too_short (node_words file nodes) (rule_nodes file rules) (length words) (length list)
