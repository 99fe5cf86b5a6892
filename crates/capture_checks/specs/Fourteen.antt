-- Number 14 of a capture (02, Note 2).
use Rattle.std.specs.Prelude.{ℕ, ◌+◌, ◌-◌, ◌*◌, Bool, not, ◌&&◌, ◌||◌, List, get_or, leb, ltb}
use Rattle.table.specs.Every.{every}
use Rattle.columns.specs.declared.Capture.{Capture}
use Rattle.clauses.specs.Limits.{tokens_of}

-- A token's last two words, "offset, length", and its end, their sum.
abbrev pub token_offset : List ℕ → ℕ → ℕ
token_offset words w = get_or words (w * 4 + 2) 0

abbrev pub token_length : List ℕ → ℕ → ℕ
token_length words w = get_or words (w * 4 + 3) 0

abbrev pub token_end : List ℕ → ℕ → ℕ
token_end words w = token_offset words w + token_length words w

-- A capture that read tokens, and the last of them.
abbrev pub reads_tokens : Capture → Bool
reads_tokens c = ltb c.first c.after

abbrev pub last_token : Capture → ℕ
last_token c = c.after - 1

-- Whether, among the tokens from place first to before place after, one has a lower offset than the one before it.
unfoldable pub offsets_fall : List ℕ → (first after : ℕ) → Bool
offsets_fall words first after =
    not (every (after - first - 1) (λ i. leb (token_offset words (first + i)) (token_offset words (first + i + 1))))

-- 14: "a capture whose rule or tokens are not there, whose first token comes after the token that follows it .., or whose
-- tokens' offsets fall, or whose last token ends past the report". Of the file and the report it asks how many rules and
-- how many bytes they have.
unfoldable pub fails14 : (rules bytes : ℕ) (words : List ℕ) (c : Capture) → Bool
fails14 rules bytes words c =
    not (ltb c.rule rules)
    || ltb (tokens_of words).count c.after
    || ltb c.after c.first
    || offsets_fall words c.first c.after
    || (reads_tokens c && ltb bytes (token_end words (last_token c)))
