-- Where the captures of a success lie (02, Note 2), in any column domain and in a table that passes 3, 4 and 5: their rules are
-- there, and their tokens are, in order, between the run's ends. So of the captures of a run none has a rule or a token that is
-- not there, or a first token after the one that follows its last.
use Prim.Native.Nat.{ℕ, zero, suc, ◌+◌, ◌≤◌, ◌<◌}
use mathlib.Core.Path.{◌≡◌, refl, subst}
use mathlib.Core.List.{List, [], ◌∷◌, ◌++◌}
use lib.ListN.{length}
use native.Mathlib.Nat.{le_refl}
use native.Mathlib.Omega.{arith}
use Rattle.table.specs.Answer.{given}
use Rattle.table.specs.Checks.{table_answer}
use Rattle.table.specs.Form as table
use Rattle.table.specs.Form.{Form, decode, kind_of, a_of, b_of, relation_of, form, node_count, stands_for}
use Rattle.table.specs.InternalInside.{Inside}
use Rattle.table.proofs.Inside.{inside_table, rule_there}
use Rattle.columns.specs.Domain.{Domain}
use Rattle.columns.specs.Intervals.{ends}
use Rattle.columns.specs.declared.Capture.{Capture}
use Rattle.columns.specs.declared.Start.{Start}
use Rattle.columns.specs.declared.Reading.{Reading}
use Rattle.well_formed.specs.WellFormed.{Passes}
use Rattle.clauses.specs.Clauses.{Tokens, State, Outcome, success, failure, Run, empty, terminal_clear, terminal_aligned, rule}
use Rattle.clauses.specs.Clauses.{sequence, choice_first, choice_second, not, repeat_ends, repeat_again, indent}
use Rattle.clauses.specs.Clauses.{indent_through, position, align}
use Rattle.clauses.specs.Limits.{tokens_of, WithinLimits}
use Rattle.clauses.specs.Trace.{Trace, trace, Gives, listed}
use Rattle.clauses.specs.ListAnswer.{our_captures, Listing, list_answer}
use Rattle.theorems.proofs.Narrows.{onward, within}
use Rattle.theorems.proofs.LimitLaws.{begins}
use Rattle.theorems.proofs.Agreement.{run_given, listing_within}

-- A capture of one of so many rules, with its tokens from place w to place w', in order.
pub record Between (count w w' : ℕ) (c : Capture) : Type 0 where
  pub rule_there : c.rule < count
  pub from : w ≤ c.first
  pub order : c.first ≤ c.after
  pub upto : c.after ≤ w'

-- All captures of a list.
pub data All (P : Capture → Type 0) : List Capture → Type 0 where
  none : All P []
  more : {c : Capture} {cs : List Capture} → P c → All P cs → All P (c ∷ cs)

-- So each of them, wherever it stands.
pub each : {P : Capture → Type 0} {c : Capture} (before rest : List Capture) → All P (before ++ (c ∷ rest)) → P c
each [] rest (more x y) = x
each (d ∷ before) rest (more x y) = each before rest y

pub all_by : {P Q : Capture → Type 0} {cs : List Capture} → ((c : Capture) → P c → Q c) → All P cs → All Q cs
all_by k none = none
all_by k (more x y) = more (k _ x) (all_by k y)

all_joined : {P : Capture → Type 0} {cs ds : List Capture} → All P cs → All P ds → All P (cs ++ ds)
all_joined none y = y
all_joined (more x z) y = more x (all_joined z y)

pub wider : {count w w' v v' : ℕ} {cs : List Capture} → v ≤ w → w' ≤ v' → All (Between count w w') cs → All (Between count v v') cs
wider h k x = all_by (λ c b. record { rule_there = b.rule_there; from = omega (arith, b.from); order = b.order; upto = omega (arith, b.upto) }) x

joined :
    {count w v u : ℕ} {cs ds : List Capture}
    → w ≤ v
    → v ≤ u
    → All (Between count w v) cs
    → All (Between count v u) ds
    → All (Between count w u) (cs ++ ds)
joined {w = w} {u = u} h k x y = all_joined (wider (le_refl w) k x) (wider h (le_refl u) y)

whole : {count x w w' k : ℕ} → x < count → w ≤ w' → Between count w w' (record { rule = x; first = w; after = w'; around = k })
whole l h = record { rule_there = l; from = omega arith; order = h; upto = omega arith }

-- A rule that a form names is one of so many.
abbrev Names : ℕ → Form → Type 0
Names count table.empty = Unit
Names count (table.terminal a) = Unit
Names count (table.rule x) = x < count
Names count (table.sequence p q) = Unit
Names count (table.choice p q) = Unit
Names count (table.not p) = Unit
Names count (table.repeat p) = Unit
Names count (table.indent p ρ) = Unit
Names count (table.position p σ) = Unit
Names count (table.align p) = Unit
Names count table.other = Unit

names_decoded : (count k a b r : ℕ) → (k ≡ 2 → a < count) → Names count (decode k a b r)
names_decoded count zero a b r h = tt
names_decoded count (suc zero) a b r h = tt
names_decoded count (suc (suc zero)) a b r h = h refl
names_decoded count (suc (suc (suc zero))) a b r h = tt
names_decoded count (suc (suc (suc (suc zero)))) a b r h = tt
names_decoded count (suc (suc (suc (suc (suc zero))))) a b r h = tt
names_decoded count (suc (suc (suc (suc (suc (suc zero)))))) a b r h = tt
names_decoded count (suc (suc (suc (suc (suc (suc (suc zero))))))) a b r h = tt
names_decoded count (suc (suc (suc (suc (suc (suc (suc (suc zero)))))))) a b r h = tt
names_decoded count (suc (suc (suc (suc (suc (suc (suc (suc (suc zero))))))))) a b r h = tt
names_decoded count (suc (suc (suc (suc (suc (suc (suc (suc (suc (suc k)))))))))) a b r h = tt

module _ (nodes rules : List ℕ) (passing : table_answer nodes rules ≡ given tt) where
  -- What a node's form has.
  record Right (f : Form) : Type 0 where
    pub inside : Inside rules (node_count nodes) f
    pub names : Names (length rules) f

  right : (n : ℕ) → n < node_count nodes → Right (form nodes n)
  unfolding form
  right n h =
      record {
        inside = inside_table nodes rules passing n h;
        names = names_decoded (length rules) (kind_of nodes n) (a_of nodes n) (b_of nodes n) (relation_of nodes n) (rule_there nodes rules passing n h);
      }

  module _ {ℓ κ} (D : Domain {ℓ, κ}) (reading : Reading) (tokens : Tokens) where
    lie :
        {τ : ℕ} {f : Form} {s s' : State D.Columns} (d : Run D reading nodes rules tokens τ f s (success s')) (k : ℕ)
        → Right f
        → All (Between (length rules) s.0 s'.0) ((trace D reading nodes rules tokens d).captures k)
    unfolding trace
    lie empty k h = none
    lie (terminal_clear n i) k h = none
    lie (terminal_aligned n i) k h = none
    lie (rule d) k h = more (whole h.names (onward D reading nodes rules tokens d)) (lie d (k + 1) (right _ h.inside))
    lie (sequence d e) k h =
        joined (onward D reading nodes rules tokens d) (onward D reading nodes rules tokens e) (lie d k (right _ h.inside.0)) (lie e k (right _ h.inside.1))
    lie (choice_first d) k h = lie d k (right _ h.inside.0)
    lie (choice_second d e) k h = lie e k (right _ h.inside.1)
    lie (not d) k h = none
    lie (repeat_ends d) k h = none
    lie (repeat_again d e) k h = joined (onward D reading nodes rules tokens d) (onward D reading nodes rules tokens e) (lie d k (right _ h.inside)) (lie e k h)
    lie (indent c d) k h = lie d k (right _ h.inside)
    lie (indent_through c d) k h = lie d k (right _ h.inside)
    lie (position d) k h = lie d k (right _ h.inside)
    lie (align d) k h = lie d k (right _ h.inside)

    -- The theorem, from a node that is there.
    pub captures_inside :
        {τ : ℕ} {s s' : State D.Columns} (n : ℕ) (d : Run D reading nodes rules tokens τ (form nodes n) s (success s')) (k : ℕ)
        → n < node_count nodes
        → All (Between (length rules) s.0 s'.0) ((trace D reading nodes rules tokens d).captures k)
    captures_inside n d k h = lie d k (right n h)

    -- What a whole run lists lies between its start and the token count.
    pub listed_inside :
        {τ : ℕ} {s : State D.Columns} (n : ℕ) (o : Outcome D.Columns) (t : Trace)
        → Gives D reading nodes rules tokens τ (form nodes n) s o t
        → n < node_count nodes
        → s.0 ≤ tokens.count
        → All (Between (length rules) s.0 tokens.count) (listed o t)
    listed_inside {s = s} n (success s') t g h p =
        wider (le_refl s.0) (within D reading nodes rules tokens p g.run)
        (subst (λ (u : Trace). All (Between (length rules) s.0 s'.0) (u.captures 0)) g.shows (captures_inside n g.run 0 h))
    listed_inside n failure t g h p = none

-- So do the captures that a run lists, for every grammar that passes, token list and start within the limits.
pub our_captures_inside :
    (reading : Reading) (nodes rules words : List ℕ) (start : Start) (limits : WithinLimits reading nodes rules words start) (well : Passes nodes rules)
    → All (Between (length rules) start.place (tokens_of words).count) (our_captures reading nodes rules words start)
our_captures_inside reading nodes rules words start limits well =
    let b = begins nodes words start limits.start_right in
    listed_inside nodes rules limits.table ends reading (tokens_of words) start.node _ _ (run_given reading nodes rules words start limits well) b.node b.place

-- So wherever a run that lists answers a listing.
pub listing_inside :
    (reading : Reading) (nodes rules words : List ℕ) (start : Start) (lent : ℕ) (x : Listing)
    → list_answer reading nodes rules words start lent ≡ given x
    → All (Between (length rules) start.place (tokens_of words).count) (our_captures reading nodes rules words start)
listing_inside reading nodes rules words start lent x e =
    let h = listing_within reading nodes rules words start lent x e in
    our_captures_inside reading nodes rules words start h.0 h.1
