-- The tagged fields of a byte list (01, "The grammar file").
use Rattle.std.specs.Prelude.{ℕ, zero, suc, ◌+◌, ◌*◌, Bool, true, false, cond, ◌&&◌, List, [], ◌∷◌, length, take, drop, leb, eqb}
use Rattle.std.proofs.Math.Option.{Option, some, none, map}

-- "one-byte tag, two-byte length (high byte first), value": the length is that of the value.
pub record Field : Type 0 where
  pub tag : ℕ
  pub value : List ℕ

-- A two-byte number, "high byte first".
abbrev pub two_bytes : ℕ → ℕ → ℕ
two_bytes high low = high * 256 + low

-- A field in front of fields, where they are there.
abbrev pub before : Field → Option (List Field) → Option (List Field)
before f fs = map (λ (gs : List Field). f ∷ gs) fs

-- The first field of a list that is not empty, and what the rest gives; none where the field is cut short.
unfoldable pub first_field : List ℕ → (List ℕ → Option (List Field)) → Option (List Field)
first_field [] rest = none
first_field (t ∷ []) rest = none
first_field (t ∷ high ∷ []) rest = none
first_field (t ∷ high ∷ low ∷ bytes) rest =
    cond (leb (two_bytes high low) (length bytes))
    (before (record { tag = t; value = take (two_bytes high low) bytes }) (rest (drop (two_bytes high low) bytes)))
    none

-- The fields of a byte list, or none where one is cut short. The number bounds how many fields there may be; a list
-- has no more fields than bytes.
unfoldable pub fields_up_to : ℕ → List ℕ → Option (List Field)
fields_up_to zero [] = some []
fields_up_to zero (t ∷ bytes) = none
fields_up_to (suc n) [] = some []
fields_up_to (suc n) (t ∷ bytes) = first_field (t ∷ bytes) (fields_up_to n)

-- The fields of a byte list: the bound is the number of its bytes.
unfoldable pub fields : List ℕ → Option (List Field)
fields bytes = fields_up_to (length bytes) bytes

-- "Tags 2 to 4 occur any number of times, in number order", "tag 5, once and last": the tags behind tag 1, none of
-- them below the first number.
unfoldable pub later_tags : ℕ → List Field → Bool
later_tags least [] = false
later_tags least (f ∷ []) = eqb f.tag 5
later_tags least (f ∷ g ∷ fs) = leb least f.tag && leb f.tag 4 && later_tags f.tag (g ∷ fs)

-- "In this order: tag 1, once", then the others.
unfoldable pub in_order : List Field → Bool
in_order [] = false
in_order (f ∷ fs) = eqb f.tag 1 && later_tags 2 fs

-- The fields of one tag, in their order.
unfoldable pub tagged : ℕ → List Field → List Field
tagged t [] = []
tagged t (f ∷ fs) = cond (eqb f.tag t) (f ∷ tagged t fs) (tagged t fs)

-- The length of a tag's value: tag 1 has one byte, a keyword any number, a rule "two-byte node number, then its name",
-- a node "kind (one byte), a (two), b (two), relation (one)", tag 5 "start node (two bytes), start mode (one)". No
-- other tag is known.
unfoldable pub right_length : ℕ → ℕ → Bool
right_length zero n = false  -- 0, no tag
right_length (suc zero) n = eqb n 1  -- 1
right_length (suc (suc zero)) n = true  -- 2 a keyword
right_length (suc (suc (suc zero))) n = leb 2 n  -- 3 a rule
right_length (suc (suc (suc (suc zero)))) n = eqb n 6  -- 4 a node
right_length (suc (suc (suc (suc (suc zero))))) n = eqb n 3  -- 5 the start
right_length (suc (suc (suc (suc (suc (suc t)))))) n = false  -- over 5, no tag
