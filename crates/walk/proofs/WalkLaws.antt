-- The walk, step by step, over plain values: what each call is asked, and what each way out has shown.
use Prim.Native.Nat.{ℕ, ◌+◌, ◌-◌, ◌*◌, ◌≤◌, ◌<◌, max}
use mathlib.Core.Path.{◌≡◌, refl, sym, ap, subst, ◌∙◌}
use mathlib.Core.Bool.{Bool, true, false, cond, true≢false}
use mathlib.Core.List.{List, []}
use mathlib.Core.Logic.{⊎_elim}
use lib.ListN.{length}
use lib.Dec.{eqb}
use native.Mathlib.Nat.{eq-or-lt_of_le, mul-le-mul}
use native.Mathlib.Omega.{arith}
use borrow.Author.Tests.{eqb-true, eqb-false}
use Rattle.table.specs.Limits.{relation_count, most_column}
use Rattle.std.proofs.Common.{Some as found}
use denote.Enum.Declared.{tag_of}
use Rattle.table.specs.contracts.kinds.Kind.{the_type}
use Rattle.table.specs.Kinds.{word_of}
use Rattle.table.specs.declared.kinds.Kind.{Kind}
use Rattle.table.specs.declared.kinds.Kind.TheVariants.{Empty, Terminal, Rule, Sequence, Choice, Not, Repeat, Indent, Position, Align}
use Rattle.table.specs.Form as table
use Rattle.table.specs.Form.{Form, form, decode, kind_of, a_of, b_of, relation_of, node_count, stands_for}
use Rattle.table.specs.InternalInside.{Inside}
use Rattle.table.proofs.Inside.{inside_table, kind_there, counts_inside, rule_there, relation_there}
use Rattle.columns.specs.Relations.{equal}
use Rattle.columns.specs.Lawful.{Some}
use Rattle.columns.specs.Intervals.{ends, inner_ends, meet_ends, after_token}
use Rattle.columns.specs.InternalHighest.{highest}
use Rattle.columns.proofs.HighestLaws.{rise_most, inner_high}
use Rattle.columns.proofs.EndLaws.{ends_lawful, same_ends}
use Rattle.columns.proofs.LawfulLaws.{inner_some}
use Rattle.columns.specs.declared.Interval.{Interval}
use Rattle.columns.specs.declared.State.{State}
use Rattle.columns.specs.declared.Outcome.{Outcome}
use Rattle.columns.specs.declared.Outcome.TheVariants.{Success, Failure}
use Rattle.columns.specs.declared.Reading.{Reading}
use Rattle.well_formed.specs.Facts.{nothing, May}
use Rattle.well_formed.specs.InternalRank.{Enters, enters_rule, enters_first, enters_second, enters_choice}
use Rattle.well_formed.specs.InternalRank.{enters_other, enters_not, enters_repeat, enters_indent, enters_position}
use Rattle.well_formed.specs.InternalRank.{enters_align, rank}
use Rattle.well_formed.proofs.RankLaws.{rank_falls, rank_some, rank_most, repeat_reads}
use Rattle.clauses.specs.Clauses.{counts}
use Rattle.clauses.specs.Trace as trace
use Rattle.clauses.specs.Trace.{Trace, silent, tried, ◌then◌, dropped, captured}
use Rattle.theorems.proofs.GiveLaws as give
use Rattle.clauses.specs.Evaluation.{reads}
use Rattle.clauses.specs.Limits.{tokens_of}
use Rattle.clauses.proofs.Sound.{terminal_read, terminal_unread}
use Rattle.theorems.proofs.Narrows.{onward, within, narrows}
use Rattle.theorems.proofs.ShownFacts.{shown, at_once}
use Rattle.theorems.proofs.Existence.{outweighs}
use Rattle.theorems.proofs.LimitLaws.{in_limits}
use Rattle.theorems.proofs.FarthestPlace.{joined_to}
use Rattle.readings.specs.Readings.{in_force}
use Rattle.after_child.specs.AfterChild.{with_interval, left_state, aligned_state, failed_state}
use Rattle.capture_list.specs.Put.{one_more, puts_back, hushed, capture_put}
use Rattle.capture_list.specs.declared.Counts.{Counts}
use Rattle.capture_list.specs.InternalList.{with_counts, Room, Lists, Leaves, lists, keeps}
use Rattle.capture_list.proofs.ListLaws.{left_lists, left_keeps, lists_none, left_none, then_left, lists_back, room_less}
use Rattle.capture_list.proofs.ListLaws.{room_then, keeps_rule, noted, lists_rule}
use Rattle.capture_list.proofs.QuietLaws.{quiet_count, not_hushed, lists_quiet, room_hushed, keeps_hushed}
use Rattle.memory.specs.Memory.{kept}
use Rattle.memory.proofs.MemoryLaws.{remembers_kept}
use Rattle.walk.specs.InternalWalk.{state_of, outcome_of, farthest_of, child_state, token_outcome, ReadyToken, weight, most_weight, most_amount, Checked}
use Rattle.walk.specs.InternalWalk.{with_farthest, joined_outcome, Ready, first_node, ReadyFirst, ReadyRule, Gives, Walked, WalkedFirst}
use Rattle.walk.specs.InternalRemembering.{Remembering, Usable, Recalls, Stored}
use Rattle.walk.proofs.HighLaws.{ends_under}

-- The form of a node, by its kind.
formed : (nodes : List ℕ) (n q : ℕ) → kind_of nodes n ≡ q → form nodes n ≡ decode q (a_of nodes n) (b_of nodes n) (relation_of nodes n)
unfolding form
formed nodes n q e = rw e refl

-- The relation in force is one.
in_force_lem : (reading : Reading) (b : Bool) (r : ℕ) → r < relation_count → in_force reading b r < relation_count
in_force_lem reading b r l = by_counts (counts reading b)
  where
    by_counts : (c : Bool) → cond c r equal < relation_count
    by_counts true = l
    by_counts false = omega arith

-- A first child's state is at the same place, with the ends higher by at most the largest amount.
child_place : (reading : Reading) (q : Kind) (r : ℕ) (s : State) → (child_state reading q r s).place ≡ s.place
unfolding child_state
child_place reading Empty r s = refl
child_place reading Terminal r s = refl
child_place reading Rule r s = refl
child_place reading Sequence r s = refl
child_place reading Choice r s = refl
child_place reading Not r s = refl
child_place reading Repeat r s = refl
child_place reading Indent r s = refl
child_place reading Position r s = refl
child_place reading Align r s = refl

child_high : (reading : Reading) (q : Kind) (r : ℕ) (s : State) → r < relation_count → highest (child_state reading q r s).interval ≤ highest s.interval + most_amount
unfolding child_state
child_high reading Empty r s l = omega arith
child_high reading Terminal r s l = omega arith
child_high reading Rule r s l = omega arith
child_high reading Sequence r s l = omega arith
child_high reading Choice r s l = omega arith
child_high reading Not r s l = omega arith
child_high reading Repeat r s l = omega arith
child_high reading Indent r s l =
    let ρ = in_force reading s.flag r in
    let k = in_force_lem reading s.flag r l in
    let h = inner_high ρ s.interval in
    let m = rise_most ρ in
    omega arith
child_high reading Position r s l = omega arith
child_high reading Align r s l = omega arith

-- Its columns are not none.
child_some : (reading : Reading) (q : Kind) (r : ℕ) (s : State) → Some ends s.interval → Some ends (child_state reading q r s).interval
unfolding child_state
child_some reading Empty r s h = h
child_some reading Terminal r s h = h
child_some reading Rule r s h = h
child_some reading Sequence r s h = h
child_some reading Choice r s h = h
child_some reading Not r s h = h
child_some reading Repeat r s h = h
child_some reading Indent r s h = inner_some ends ends_lawful (in_force reading s.flag r) s.interval h
child_some reading Position r s h = h
child_some reading Align r s h = h

-- The node that is walked first is a terminal's own, or the first child.
first_at : (q : Kind) (n a : ℕ) (P : ℕ → Type 0) → (q ≡ Terminal → P n) → ((q ≡ Terminal → ⊥) → P a) → P (first_node q n a)
first_at Empty n a P f g = g (λ e. cc)
first_at Terminal n a P f g = f refl
first_at Rule n a P f g = g (λ e. cc)
first_at Sequence n a P f g = g (λ e. cc)
first_at Choice n a P f g = g (λ e. cc)
first_at Not n a P f g = g (λ e. cc)
first_at Repeat n a P f g = g (λ e. cc)
first_at Indent n a P f g = g (λ e. cc)
first_at Position n a P f g = g (λ e. cc)
first_at Align n a P f g = g (λ e. cc)

-- A kind as a number is its word.
pub tag_is : (q : Kind) → tag_of the_type q ≡ word_of q
tag_is Empty = refl
tag_is Terminal = refl
tag_is Rule = refl
tag_is Sequence = refl
tag_is Choice = refl
tag_is Not = refl
tag_is Repeat = refl
tag_is Indent = refl
tag_is Position = refl
tag_is Align = refl

-- A kind whose word is 1 is a terminal.
is_terminal : (q : Kind) → word_of q ≡ 1 → q ≡ Terminal
is_terminal Empty e = absurd (omega arith)
is_terminal Terminal e = refl
is_terminal Rule e = absurd (omega arith)
is_terminal Sequence e = absurd (omega arith)
is_terminal Choice e = absurd (omega arith)
is_terminal Not e = absurd (omega arith)
is_terminal Repeat e = absurd (omega arith)
is_terminal Indent e = absurd (omega arith)
is_terminal Position e = absurd (omega arith)
is_terminal Align e = absurd (omega arith)

either_less : {x y T : ℕ} (b : Bool) → x < T → y < T → cond b x y < T
either_less true h k = h
either_less false h k = k

-- A node that is none of empty, a terminal, a rule and a position enters a.
enters_a :
    (nodes rules : List ℕ) (count : ℕ) (q : Kind) (a b r : ℕ)
    → Inside rules count (decode (word_of q) a b r)
    → (q ≡ Empty → ⊥)
    → (q ≡ Terminal → ⊥)
    → (q ≡ Rule → ⊥)
    → (q ≡ Position → ⊥)
    → (a < count) × Enters nodes rules (decode (word_of q) a b r) a
enters_a nodes rules count Empty a b r i h0 h1 h2 h8 = absurd (h0 refl)
enters_a nodes rules count Terminal a b r i h0 h1 h2 h8 = absurd (h1 refl)
enters_a nodes rules count Rule a b r i h0 h1 h2 h8 = absurd (h2 refl)
enters_a nodes rules count Sequence a b r i h0 h1 h2 h8 = (i.0, enters_first)
enters_a nodes rules count Choice a b r i h0 h1 h2 h8 = (i.0, enters_choice)
enters_a nodes rules count Not a b r i h0 h1 h2 h8 = (i, enters_not)
enters_a nodes rules count Repeat a b r i h0 h1 h2 h8 = (i, enters_repeat)
enters_a nodes rules count Indent a b r i h0 h1 h2 h8 = (i, enters_indent)
enters_a nodes rules count Position a b r i h0 h1 h2 h8 = absurd (h8 refl)
enters_a nodes rules count Align a b r i h0 h1 h2 h8 = (i, enters_align)

-- A kind that is none of the others is an align.
is_align :
    (q : Kind)
    → (q ≡ Empty → ⊥)
    → (q ≡ Terminal → ⊥)
    → (q ≡ Rule → ⊥)
    → (q ≡ Sequence → ⊥)
    → (q ≡ Choice → ⊥)
    → (q ≡ Not → ⊥)
    → (q ≡ Repeat → ⊥)
    → (q ≡ Indent → ⊥)
    → (q ≡ Position → ⊥)
    → q ≡ Align
is_align Empty h0 h1 h2 h3 h4 h5 h6 h7 h8 = absurd (h0 refl)
is_align Terminal h0 h1 h2 h3 h4 h5 h6 h7 h8 = absurd (h1 refl)
is_align Rule h0 h1 h2 h3 h4 h5 h6 h7 h8 = absurd (h2 refl)
is_align Sequence h0 h1 h2 h3 h4 h5 h6 h7 h8 = absurd (h3 refl)
is_align Choice h0 h1 h2 h3 h4 h5 h6 h7 h8 = absurd (h4 refl)
is_align Not h0 h1 h2 h3 h4 h5 h6 h7 h8 = absurd (h5 refl)
is_align Repeat h0 h1 h2 h3 h4 h5 h6 h7 h8 = absurd (h6 refl)
is_align Indent h0 h1 h2 h3 h4 h5 h6 h7 h8 = absurd (h7 refl)
is_align Position h0 h1 h2 h3 h4 h5 h6 h7 h8 = absurd (h8 refl)
is_align Align h0 h1 h2 h3 h4 h5 h6 h7 h8 = refl

module _ (reading : Reading) (nodes rules words : List ℕ) where
  made :
      {τ : ℕ} {f : Form} {s : State} {o : Outcome} {t : Trace}
      → trace.Gives ends reading nodes rules (tokens_of words) τ f (state_of s) (outcome_of o) t
      → farthest_of o ≡ t.farthest s.farthest
      → Gives reading nodes rules words τ f s o t
  made d m = record { derived = d; looked = m }

  -- How far one after the other looked, the second from where the first had.
  both_looked :
      {t u : Trace} {τ τ' : ℕ} {f g : Form} {s s' : State} {o o' : Outcome}
      → Gives reading nodes rules words τ f s o t
      → farthest_of o ≡ s'.farthest
      → Gives reading nodes rules words τ' g s' o' u
      → farthest_of o' ≡ u.farthest (t.farthest s.farthest)
  both_looked {u = u} d e f = f.looked ∙ ap u.farthest (sym e ∙ d.looked)

  -- An indent by the relation in force, by what its child gave: where it counts, and where it does not.
  indent_failed :
      {t : Trace} {τ a r m : ℕ} {s : State} (c : Bool)
      → counts reading s.flag ≡ c
      → Gives reading nodes rules words τ (form nodes a) (with_interval s (inner_ends (cond c r equal) s.interval)) (Failure m) t
      → Gives reading nodes rules words τ (table.indent a r) s (Failure m) t
  indent_failed true e d = made (give.indent_fails e d.derived) d.looked
  indent_failed false e d = made (give.indent_through e d.derived) d.looked

  -- By equal the columns that a child left pass through, as they lie in those that it was given.
  through_read :
      {t : Trace} {τ : ℕ} {f : Form} {s u : State}
      → Some ends s.interval
      → Gives reading nodes rules words τ f s (Success u) t
      → u.interval ≡ meet_ends s.interval u.interval
  through_read {s = s} {u = u} n d =
      let h = narrows ends reading nodes rules (tokens_of words) ends_lawful n d.derived.run in
      same_ends u.interval (meet_ends s.interval u.interval) h.some
      (λ k m. (ends_lawful.met s.interval u.interval k).1 (h.columns k m, m))
      (λ k m. ((ends_lawful.met s.interval u.interval k).0 m).1)

  indent_read :
      {t : Trace} {τ a r : ℕ} {s u : State} (c : Bool)
      → Some ends s.interval
      → counts reading s.flag ≡ c
      → Gives reading nodes rules words τ (form nodes a) (with_interval s (inner_ends (cond c r equal) s.interval)) (Success u) t
      → Gives reading nodes rules words τ (table.indent a r) s (Success (left_state (cond c r equal) s u)) t
  indent_read true n e d = made (give.indent e d.derived) d.looked
  indent_read {t} {τ} {a} {r} {s} {u} false n e d =
      let x : Gives reading nodes rules words τ (table.indent a r) s (Success u) t = made (give.indent_through e d.derived) d.looked in
      subst (λ (I : Interval). Gives reading nodes rules words τ (table.indent a r) s (Success (with_interval u I)) t) (through_read n d) x

  -- Where what is walked first failed, so do a terminal, a sequence, an indent and an align.
  failed :
      {t : Trace} {m : ℕ} (τ n a b r : ℕ) (s : State) (q : Kind)
      → form nodes n ≡ decode (word_of q) a b r
      → Gives reading nodes rules words τ (form nodes (first_node q n a)) (child_state reading q r s) (Failure m) t
      → (q ≡ Empty → ⊥)
      → (q ≡ Rule → ⊥)
      → (q ≡ Position → ⊥)
      → (q ≡ Choice → ⊥)
      → (q ≡ Not → ⊥)
      → (q ≡ Repeat → ⊥)
      → Gives reading nodes rules words τ (decode (word_of q) a b r) s (Failure m) t
  unfolding child_state
  failed τ n a b r s Empty f d h0 h2 h8 h4 h5 h6 = absurd (h0 refl)
  failed τ n a b r s Terminal f d h0 h2 h8 h4 h5 h6 = rw f at d
  failed τ n a b r s Rule f d h0 h2 h8 h4 h5 h6 = absurd (h2 refl)
  failed τ n a b r s Sequence f d h0 h2 h8 h4 h5 h6 = made (give.sequence_fails d.derived) d.looked
  failed τ n a b r s Choice f d h0 h2 h8 h4 h5 h6 = absurd (h4 refl)
  failed τ n a b r s Not f d h0 h2 h8 h4 h5 h6 = absurd (h5 refl)
  failed τ n a b r s Repeat f d h0 h2 h8 h4 h5 h6 = absurd (h6 refl)
  failed τ n a b r s Indent f d h0 h2 h8 h4 h5 h6 = indent_failed (counts reading s.flag) refl d
  failed τ n a b r s Position f d h0 h2 h8 h4 h5 h6 = absurd (h8 refl)
  failed τ n a b r s Align f d h0 h2 h8 h4 h5 h6 = made (give.align_fails d.derived) d.looked

  -- One token.
  token_gives : (τ a : ℕ) (s : State) → Gives reading nodes rules words τ (table.terminal a) s (token_outcome words τ a s) (tried s.place)
  unfolding token_outcome
  token_gives τ a s = by_test (reads (tokens_of words) τ a (state_of s)) refl
    where
      by_test :
          (t : Bool)
          → reads (tokens_of words) τ a (state_of s) ≡ t
          → Gives reading nodes rules words τ (table.terminal a) s
          (cond t
          (Success
          (record {
            place = s.place + 1;
            farthest = max s.farthest s.place;
            interval = after_token s.flag τ s.interval ((tokens_of words).column s.place);
            flag = false;
          })) (Failure (max s.farthest s.place))) (tried s.place)
      by_test true e = made (terminal_read reading nodes rules (tokens_of words) τ a s.place s.interval s.flag e) refl
      by_test false e = made (terminal_unread reading nodes rules (tokens_of words) τ a s.place s.interval s.flag e) refl

module _ (nodes rules words : List ℕ) where
  -- A call at node n and state s that weighs less than w.
  record Lighter (w n : ℕ) (s : State) : Type 0 where
    pub less : weight nodes rules words n s < w
    pub ready : Ready nodes rules words n s

  -- No weight is over the largest.
  pub weight_most : (n : ℕ) (s : State) → Checked nodes rules words → n < node_count nodes → weight nodes rules words n s ≤ most_weight
  unfolding weight
  weight_most n s k h =
      let few = (in_limits words k.tokens).few in
      let small = (counts_inside nodes rules k.table).1 in
      let x = rank_most nodes rules k.table k.well n h in
      let one : (tokens_of words).count - s.place ≤ 4096 = omega arith in
      let two : node_count nodes ≤ 512 = omega arith in
      let y : ((tokens_of words).count - s.place) * node_count nodes ≤ 4096 * 512 = mul-le-mul one two in
      omega arith

  module _ (n : ℕ) (s : State) (h : Ready nodes rules words n s) where
    -- A child that is entered at the same place.
    entered :
        (c : ℕ)
        → c < node_count nodes
        → Enters nodes rules (form nodes n) c
        → (u : State)
        → u.place ≡ s.place
        → highest u.interval ≤ highest s.interval + most_amount
        → Some ends u.interval
        → Lighter (weight nodes rules words n s) c u
    unfolding weight
    entered c i enter u p l some =
        let q = rank_falls nodes rules h.checked.table h.checked.well n c h.node enter in
        let b = h.place in
        let m = h.room in
        let less :
        ((tokens_of words).count - u.place) * node_count nodes + rank nodes rules c
        < ((tokens_of words).count - s.place) * node_count nodes + rank nodes rules n =
        rw p (omega arith) in
        record {
          less = less;
          ready = record { checked = h.checked; node = i; place = omega arith; some = some; room = omega arith };
        }

    -- A child that is entered after a success of another, at the same place or after a token, weighs less.
    lighter :
        {reading : Reading} {t : Trace} (a c τ : ℕ) (u : State)
        → c < node_count nodes
        → Gives reading nodes rules words τ (form nodes a) s (Success u) t
        → (May nodes rules (form nodes a) nothing → rank nodes rules c < rank nodes rules n)
        → weight nodes rules words c u < weight nodes rules words n s
    unfolding weight
    lighter {reading} a c τ u i d q =
        let far = within ends reading nodes rules (tokens_of words) h.place d.derived.run in
        ⊎_elim
        (λ (e : s.place ≡ u.place).
        let k = q (shown ends reading nodes rules (tokens_of words) d.derived.run nothing (at_once (sym e))) in rw (← e) (omega arith))
        (λ (l : s.place < u.place).
        outweighs ((tokens_of words).count - s.place) ((tokens_of words).count - u.place) (node_count nodes)
        (rank nodes rules n) (rank nodes rules c) (omega arith)
        (rank_most nodes rules h.checked.table h.checked.well c i) (rank_some nodes rules h.checked.table h.checked.well n))
        (eq-or-lt_of_le (onward ends reading nodes rules (tokens_of words) d.derived.run))

    after :
        {reading : Reading} {t : Trace} (a c τ : ℕ) (u : State)
        → c < node_count nodes
        → Gives reading nodes rules words τ (form nodes a) s (Success u) t
        → (May nodes rules (form nodes a) nothing → rank nodes rules c < rank nodes rules n)
        → Lighter (weight nodes rules words n s) c u
    after {reading} a c τ u i d q =
        let columns = (in_limits words h.checked.tokens).column in
        let high = ends_under reading nodes rules (tokens_of words) most_column columns (highest s.interval) (omega arith) d.derived.run in
        let w = weight_most c u h.checked i in
        let m = h.room in
        let l = lighter a c τ u i d q in
        let some = (narrows ends reading nodes rules (tokens_of words) ends_lawful h.some d.derived.run).some in
        record {
          less = l;
          ready =
              record { checked = h.checked; node = i; place = within ends reading nodes rules (tokens_of words) h.place d.derived.run; some = some; room = omega arith };
        }

-- A node's four words, and the tokens' words, are there.
module _ {nodes rules words : List ℕ} {n : ℕ} {s : State} (h : Ready nodes rules words n s) where
  pub node_there : n * 4 + 3 < length nodes
  node_there = let l = h.node in let w = (counts_inside nodes rules h.checked.table).0 in omega arith

  token_ready : ReadyToken words
  token_ready =
      let k = in_limits words h.checked.tokens in
      let few = k.few in
      let whole = k.whole in
      record { whole = whole; few = omega arith }

-- What was tried is no weight.
weight_untried : (nodes rules words : List ℕ) (n : ℕ) (s : State) → weight nodes rules words n (with_farthest s 0) ≡ weight nodes rules words n s
unfolding weight
weight_untried nodes rules words n s = refl

ready_untried : {nodes rules words : List ℕ} {n : ℕ} {s : State} → Ready nodes rules words n s → Ready nodes rules words n (with_farthest s 0)
unfolding weight
ready_untried h = record { checked = h.checked; node = h.node; place = h.place; some = h.some; room = h.room }

-- The loop has come from a mode, a node, a state and a list to others: what is left to do is ready and weighs no more, and
-- what it shows is the whole's.
pub record Walk (reading : Reading) (nodes rules words : List ℕ) (τ₀ n₀ : ℕ) (s₀ : State) (c₀ : Counts) (l₀ : List ℕ) (τ n : ℕ) (s : State) (c : Counts) (l : List ℕ) : Type 0 where
  pub ready : Ready nodes rules words n s
  pub room : Room (weight nodes rules words n s) c l
  pub low : weight nodes rules words n s ≤ weight nodes rules words n₀ s₀
  pub long : length l ≡ length l₀
  pub back :
      (o : Outcome) (c' : Counts) (l' : List ℕ)
      → Walked reading nodes rules words τ (form nodes n) s c l o c' l'
      → Walked reading nodes rules words τ₀ (form nodes n₀) s₀ c₀ l₀ o c' l'

-- What the loop holds of the slice that it remembers in.
pub record Kept (reading : Reading) (nodes rules words memory₀ memory : List ℕ) : Type 0 where
  pub remembers : Remembering reading nodes rules words memory
  pub long : length memory ≡ length memory₀

pub kept_on :
    {reading : Reading} {nodes rules words memory₀ memory memory' : List ℕ}
    → Remembering reading nodes rules words memory'
    → length memory' ≡ length memory
    → Kept reading nodes rules words memory₀ memory
    → Kept reading nodes rules words memory₀ memory'
kept_on r e k = record { remembers = r; long = e ∙ k.long }

pub start :
    {reading : Reading} {nodes rules words : List ℕ} {τ n : ℕ} {s : State} {c : Counts} {l : List ℕ}
    → Ready nodes rules words n s
    → Room (weight nodes rules words n s) c l
    → Walk reading nodes rules words τ n s c l τ n s c l
start h r = record { ready = h; room = r; low = omega arith; long = refl; back = λ o c' l' d. d }

module _ {reading : Reading} {nodes rules words : List ℕ} {τ₀ n₀ : ℕ} {s₀ : State} {c₀ : Counts} {l₀ : List ℕ} {τ n : ℕ} {s : State} {c : Counts} {l : List ℕ}
    (h : Walk reading nodes rules words τ₀ n₀ s₀ c₀ l₀ τ n s c l) where
  abbrev a : ℕ
  a = a_of nodes n

  abbrev b : ℕ
  b = b_of nodes n

  abbrev r : ℕ
  r = relation_of nodes n

  -- The node's kind is one of those there are.
  pub kind_in : 9 < kind_of nodes n → ⊥
  kind_in f = let k = kind_there nodes rules h.ready.checked.table n h.ready.node in omega arith

  relation_in : r < relation_count
  relation_in = relation_there nodes rules h.ready.checked.table n h.ready.node

  -- What the whole shows, and what this node's form shows.
  abbrev Whole : Outcome → Counts → List ℕ → Type 0
  Whole o c' l' = Walked reading nodes rules words τ₀ (form nodes n₀) s₀ c₀ l₀ o c' l'

  abbrev Here : Kind → Outcome → Counts → List ℕ → Type 0
  Here q o c' l' = Walked reading nodes rules words τ (decode (word_of q) a b r) s c l o c' l'

  -- By its kind.
  module _ {kind : Kind} (tie : word_of kind ≡ kind_of nodes n) where
    word_is : (q : Kind) → kind ≡ q → kind_of nodes n ≡ word_of q
    word_is q p = sym tie ∙ ap word_of p

    inside : (q : Kind) → kind ≡ q → Inside rules (node_count nodes) (decode (word_of q) a b r)
    inside q p = subst (Inside rules (node_count nodes)) (formed nodes n (word_of q) (word_is q p)) (inside_table nodes rules h.ready.checked.table n h.ready.node)

    enters : (q : Kind) (k : ℕ) → kind ≡ q → Enters nodes rules (decode (word_of q) a b r) k → Enters nodes rules (form nodes n) k
    enters q k p e = rw (formed nodes n (word_of q) (word_is q p)) e

    -- What the whole shows, from this node's form.
    out : (o : Outcome) {c' : Counts} {l' : List ℕ} (q : Kind) → kind ≡ q → Here q o c' l' → Whole o c' l'
    out o {c'} {l'} q p d = h.back o c' l' (rw (formed nodes n (word_of q) (word_is q p)) d)

    -- The next turn, after what a trace shows is listed.
    turn :
        (q : Kind)
        → kind ≡ q
        → (τ' n' : ℕ) (u : State) {c' : Counts} {l' : List ℕ} {t : Trace}
        → Lighter nodes rules words (weight nodes rules words n s) n' u
        → Lists t c l c' l'
        → ((o : Outcome) (c'' : Counts) (l'' : List ℕ) → Walked reading nodes rules words τ' (form nodes n') u c' l' o c'' l'' → Here q o c'' l'')
        → Walk reading nodes rules words τ₀ n₀ s₀ c₀ l₀ τ' n' u c' l'
    turn q p τ' n' u x y f =
        let w = x.less in
        let k = h.low in
        record {
          ready = x.ready;
          room = room_then h.room (weight nodes rules words n' u) (omega arith) y;
          low = omega arith;
          long = y.keeps.long ∙ h.long;
          back = λ o c'' l'' d. out o q p (f o c'' l'' d);
        }

    -- Empty.
    pub out_empty : kind ≡ Empty → Whole (Success s) c l
    out_empty p = out (Success s) Empty p (record { shown = silent; gives = made reading nodes rules words give.empty refl; left = left_none h.room (Success s) refl })

    -- A rule, in a state i that is written anew.
    module _ (p : kind ≡ Rule) {i : State} (e : i ≡ s) where
      rule_next : Lighter nodes rules words (weight nodes rules words n s) (stands_for rules a) i
      rule_next =
          rw e
          (entered nodes rules words n s h.ready (stands_for rules a) (inside Rule p) (enters Rule (stands_for rules a) p enters_rule) s refl (omega arith) h.ready.some)

      pub rule_less : {T : ℕ} → 2 * weight nodes rules words n₀ s₀ + 1 ≡ T → 2 * weight nodes rules words (stands_for rules a) i + 2 < T
      rule_less q = let l = rule_next.less in let k = h.low in omega arith

      pub rule_ready : ReadyRule nodes rules words a i
      rule_ready = record { there = rule_there nodes rules h.ready.checked.table n h.ready.node (word_is Rule p); ready = rule_next.ready }

      pub rule_room : Room (weight nodes rules words (stands_for rules a) i + 1) c l
      rule_room = let w = rule_next.less in room_less h.room (weight nodes rules words (stands_for rules a) i + 1) (omega arith)

      pub out_rule : (o : Outcome) {c' : Counts} {l' : List ℕ} → Walked reading nodes rules words τ (table.rule a) i c l o c' l' → Whole o c' l'
      out_rule o {c'} {l'} d = out o Rule p (subst (λ (u : State). Walked reading nodes rules words τ (table.rule a) u c l o c' l') e d)

    -- A position.
    position_next : kind ≡ Position → Lighter nodes rules words (weight nodes rules words n s) a s
    position_next p = entered nodes rules words n s h.ready a (inside Position p) (enters Position a p enters_position) s refl (omega arith) h.ready.some

    pub position_less : kind ≡ Position → weight nodes rules words a s < weight nodes rules words n s
    position_less p = (position_next p).less

    pub position_again : kind ≡ Position → Walk reading nodes rules words τ₀ n₀ s₀ c₀ l₀ r a s c l
    position_again p =
        turn Position p r a s (position_next p) (lists_none h.room {t = silent} refl)
        (λ o c'' l'' d. record { shown = d.shown; gives = made reading nodes rules words (give.position d.gives.derived) d.gives.looked; left = d.left })

    -- The call for what is walked first.
    module _ (h0 : kind ≡ Empty → ⊥) (h2 : kind ≡ Rule → ⊥) (h8 : kind ≡ Position → ⊥) {k : ℕ} (y : k ≡ first_node kind n a) where
      call : (kind ≡ Terminal → ⊥) → Lighter nodes rules words (weight nodes rules words n s) a (child_state reading kind r s)
      call h1 =
          let x = enters_a nodes rules (node_count nodes) kind a b r (inside kind refl) h0 h1 h2 h8 in
          entered nodes rules words n s h.ready a x.0 (enters kind a refl x.1) (child_state reading kind r s)
          (child_place reading kind r s) (child_high reading kind r s relation_in) (child_some reading kind r s h.ready.some)

      -- A terminal is walked in the state as it is.
      own : kind ≡ Terminal → child_state reading kind r s ≡ s
      unfolding child_state
      own p = rw p refl

      by_kind : (P : ℕ → Type 0) → (kind ≡ Terminal → P n) → ((kind ≡ Terminal → ⊥) → P a) → P k
      by_kind P f g = rw y (first_at kind n a P f g)

      pub call_less : {T : ℕ} → 2 * weight nodes rules words n₀ s₀ + 1 ≡ T → cond (eqb (word_of kind) 1) 0 (2 * weight nodes rules words k (child_state reading kind r s) + 2) < T
      call_less {T} q =
          by_kind (λ (m : ℕ). cond (eqb (word_of kind) 1) 0 (2 * weight nodes rules words m (child_state reading kind r s) + 2) < T)
          (λ p. rw p (omega arith))
          (λ h1.
          let w = (call h1).less in
          let m = h.low in
          either_less (eqb (word_of kind) 1) (omega arith) (omega arith))

      pub call_ready : ReadyFirst reading nodes rules words k kind r s
      call_ready =
          record {
            ready = by_kind (λ (m : ℕ). Ready nodes rules words m (child_state reading kind r s)) (λ p. rw (own p) h.ready) (λ h1. (call h1).ready);
            terminal = λ p. by_kind (λ (m : ℕ). kind_of nodes m ≡ 1) (λ q. word_is Terminal q) (λ h1. absurd (h1 p));
            room = let m = h.ready.room in let l = in_force_lem reading s.flag r relation_in in let n = rise_most (in_force reading s.flag r) in omega arith;
          }

      pub call_room : Room (weight nodes rules words k (child_state reading kind r s)) c l
      call_room =
          by_kind (λ (m : ℕ). Room (weight nodes rules words m (child_state reading kind r s)) c l) (λ p. rw (own p) h.room)
          (λ h1. let w = (call h1).less in room_less h.room (weight nodes rules words a (child_state reading kind r s)) (omega arith))

    -- After it: the outcome x that it gave, and the list that it left.
    module _ {k : ℕ} (e : k ≡ first_node kind n a) {x : Outcome} {c' : Counts} {l' : List ℕ}
        (d : WalkedFirst kind reading nodes rules words τ (form nodes k) (child_state reading kind r s) c l x c' l') where
      abbrev Child : Kind → ℕ → State → Outcome → Type 0
      Child q m u o = WalkedFirst q reading nodes rules words τ (form nodes m) u c l o c' l'

      gave : (q : Kind) → kind ≡ q → {o : Outcome} → x ≡ o → Child q (first_node q n a) (child_state reading q r s) o
      gave q p {o} z =
          subst (λ (j : Kind). Child j (first_node j n a) (child_state reading j r s) o) p
          (subst (λ (m : ℕ). Child kind m (child_state reading kind r s) o) e (subst (λ (v : Outcome). Child kind k (child_state reading kind r s) v) z d))

      -- A kind whose child is walked in the state as it is.
      third : kind ≡ Sequence → {o : Outcome} → x ≡ o → Child Sequence a s o
      unfolding child_state
      third p z = gave Sequence p z

      fourth : kind ≡ Choice → {o : Outcome} → x ≡ o → Child Choice a s o
      unfolding child_state
      fourth p z = gave Choice p z

      fifth : kind ≡ Not → {o : Outcome} → x ≡ o → Child Not a s o
      unfolding child_state
      fifth p z = gave Not p z

      sixth : kind ≡ Repeat → {o : Outcome} → x ≡ o → Child Repeat a s o
      unfolding child_state
      sixth p z = gave Repeat p z

      -- The child failed, and v is the state behind it.
      module _ (m : ℕ) (z : x ≡ Failure m) {v : State} (y : v ≡ failed_state s m) where
        choice_next : kind ≡ Choice → Lighter nodes rules words (weight nodes rules words n s) b v
        choice_next p =
            rw y (entered nodes rules words n s h.ready b (inside Choice p).1 (enters Choice b p enters_other) (failed_state s m) refl (omega arith) h.ready.some)

        pub choice_less : kind ≡ Choice → weight nodes rules words b v < weight nodes rules words n s
        choice_less p = (choice_next p).less

        pub choice_again : kind ≡ Choice → Walk reading nodes rules words τ₀ n₀ s₀ c₀ l₀ τ b v c' l'
        choice_again p =
            let k = fourth p z in
            turn Choice p τ b v (choice_next p) k.left
            (λ o c'' l'' f.
            let g : Walked reading nodes rules words τ (form nodes b) (failed_state s m) c' l' o c'' l'' = rw y at f in
            record {
              shown = dropped k.shown then g.shown;
              gives =
                  made reading nodes rules words (give.choice_second k.gives.derived g.gives.derived)
                  (both_looked reading nodes rules words k.gives refl g.gives);
              left = then_left h.room k.left g.left;
            })

        pub out_not : kind ≡ Not → Whole (Success v) c' l'
        out_not p =
            let k = fifth p z in
            rw y
            (out (Success (failed_state s m)) Not p
            (record { shown = dropped k.shown; gives = made reading nodes rules words (give.not k.gives.derived) k.gives.looked; left = lists k.left }))

        pub out_repeat : kind ≡ Repeat → Whole (Success v) c' l'
        out_repeat p =
            let k = sixth p z in
            rw y
            (out (Success (failed_state s m)) Repeat p
            (record { shown = dropped k.shown; gives = made reading nodes rules words (give.repeat_ends k.gives.derived) k.gives.looked; left = lists k.left }))

      module _ (m : ℕ) (z : x ≡ Failure m) where
        pub out_failed :
            (kind ≡ Empty → ⊥)
            → (kind ≡ Rule → ⊥)
            → (kind ≡ Position → ⊥)
            → (kind ≡ Choice → ⊥)
            → (kind ≡ Not → ⊥)
            → (kind ≡ Repeat → ⊥)
            → Whole (Failure m) c' l'
        out_failed h0 h2 h8 h4 h5 h6 =
            let k = gave kind refl z in
            out (Failure m) kind refl
            (record {
              shown = k.shown;
              gives =
                  failed reading nodes rules words τ n a b r s kind (formed nodes n (word_of kind) (sym tie))
                  k.gives h0 h2 h8 h4 h5 h6;
              left = keeps k.left.keeps;
            })

      -- The child succeeded.
      module _ (u : State) (z : x ≡ Success u) where
        -- A terminal.
        token_read : kind ≡ Terminal → Here Terminal (Success u) c' l'
        unfolding child_state
        token_read p =
            let k = gave Terminal p z in
            let g : Gives reading nodes rules words τ (table.terminal a) s (Success u) k.shown = rw (formed nodes n 1 (word_is Terminal p)) at k.gives in
            record { shown = k.shown; gives = g; left = lists k.left }

        pub out_terminal : kind ≡ Terminal → Whole (Success u) c' l'
        out_terminal p = out (Success u) Terminal p (token_read p)

        -- A sequence: its second part is the next turn.
        sequence_next : kind ≡ Sequence → Lighter nodes rules words (weight nodes rules words n s) b u
        sequence_next p =
            after nodes rules words n s h.ready a b τ u (inside Sequence p).1 (third p z).gives
            (λ m. rank_falls nodes rules h.ready.checked.table h.ready.checked.well n b h.ready.node (enters Sequence b p (enters_second m)))

        pub sequence_less : kind ≡ Sequence → weight nodes rules words b u < weight nodes rules words n s
        sequence_less p = (sequence_next p).less

        pub sequence_again : kind ≡ Sequence → Walk reading nodes rules words τ₀ n₀ s₀ c₀ l₀ τ b u c' l'
        sequence_again p =
            let k = third p z in
            turn Sequence p τ b u (sequence_next p) k.left
            (λ o c'' l'' f.
            record {
              shown = k.shown then f.shown;
              gives =
                  made reading nodes rules words (give.sequence k.gives.derived f.gives.derived)
                  (both_looked reading nodes rules words k.gives refl f.gives);
              left = then_left h.room k.left f.left;
            })

        pub out_choice : kind ≡ Choice → Whole (Success u) c' l'
        out_choice p =
            let k = fourth p z in
            out (Success u) Choice p
            (record { shown = k.shown; gives = made reading nodes rules words (give.choice_first k.gives.derived) k.gives.looked; left = lists k.left })

        pub out_not_fails : kind ≡ Not → Whole (Failure u.farthest) c' l'
        out_not_fails p =
            let k = fifth p z in
            out (Failure u.farthest) Not p
            (record { shown = dropped k.shown; gives = made reading nodes rules words (give.not_fails k.gives.derived) k.gives.looked; left = keeps k.left.keeps })

        -- A repeat: a round more is the next turn.
        repeat_next : kind ≡ Repeat → Lighter nodes rules words (weight nodes rules words n s) n u
        repeat_next p =
            after nodes rules words n s h.ready a n τ u h.ready.node (sixth p z).gives
            (λ m. absurd (repeat_reads nodes rules h.ready.checked.table h.ready.checked.well n a h.ready.node (formed nodes n 6 (word_is Repeat p)) m))

        pub repeat_less : kind ≡ Repeat → weight nodes rules words n u < weight nodes rules words n s
        repeat_less p = (repeat_next p).less

        pub repeat_again : kind ≡ Repeat → Walk reading nodes rules words τ₀ n₀ s₀ c₀ l₀ τ n u c' l'
        repeat_again p =
            let k = sixth p z in
            turn Repeat p τ n u (repeat_next p) k.left
            (λ o c'' l'' f.
            let g : Walked reading nodes rules words τ (table.repeat a) u c' l' o c'' l'' = rw (formed nodes n 6 (word_is Repeat p)) at f in
            record {
              shown = k.shown then g.shown;
              gives =
                  made reading nodes rules words (give.repeat_again k.gives.derived g.gives.derived)
                  (both_looked reading nodes rules words k.gives refl g.gives);
              left = then_left h.room k.left g.left;
            })

        indented : kind ≡ Indent → Here Indent (Success (left_state (in_force reading s.flag r) s u)) c' l'
        unfolding child_state
        indented p =
            let k = gave Indent p z in
            record {
              shown = k.shown;
              gives = indent_read reading nodes rules words (counts reading s.flag) h.ready.some refl k.gives;
              left = lists k.left;
            }

        pub out_indent : kind ≡ Indent → {ρ : ℕ} → ρ ≡ in_force reading s.flag r → {v : State} → v ≡ left_state ρ s u → Whole (Success v) c' l'
        out_indent p g {v} y = rw (y, g) (out (Success (left_state (in_force reading s.flag r) s u)) Indent p (indented p))

        aligned : kind ≡ Align → Here Align (Success (aligned_state reading s u)) c' l'
        unfolding child_state
        aligned p =
            let k = gave Align p z in
            record { shown = k.shown; gives = made reading nodes rules words (give.align k.gives.derived) k.gives.looked; left = lists k.left }

        pub out_align :
            (kind ≡ Empty → ⊥)
            → (kind ≡ Rule → ⊥)
            → (kind ≡ Position → ⊥)
            → (kind ≡ Terminal → ⊥)
            → (kind ≡ Sequence → ⊥)
            → (kind ≡ Choice → ⊥)
            → (kind ≡ Not → ⊥)
            → (kind ≡ Repeat → ⊥)
            → (kind ≡ Indent → ⊥)
            → {v : State}
            → v ≡ aligned_state reading s u
            → Whole (Success v) c' l'
        out_align h0 h2 h8 h1 h3 h4 h5 h6 h7 {v} y =
            let p = is_align kind h0 h1 h2 h3 h4 h5 h6 h7 h8 in
            rw y (out (Success (aligned_state reading s u)) Align p (aligned p))

-- An outcome from a state in which nothing was tried, with what was tried before joined to what it tried.
module _ (reading : Reading) (nodes rules words : List ℕ) where
  gives_joined :
      {τ : ℕ} {f : Form} {s : State} {t : Trace} (v : Outcome)
      → Gives reading nodes rules words τ f (with_farthest s 0) v t
      → Gives reading nodes rules words τ f s (joined_outcome s.farthest v) t
  gives_joined {s = s} {t = t} v d = made reading nodes rules words (derived v d) (tried_both v ∙ ap (max s.farthest) d.looked ∙ sym far)
    where
      far : t.farthest s.farthest ≡ max s.farthest (t.farthest 0)
      far =
          subst (λ (u : Trace). u.farthest s.farthest ≡ max s.farthest (u.farthest 0)) d.derived.shows
          (joined_to ends reading nodes rules (tokens_of words) d.derived.run s.farthest)

      derived :
          {τ : ℕ} {f : Form} {t : Trace} (v : Outcome)
          → Gives reading nodes rules words τ f (with_farthest s 0) v t
          → trace.Gives ends reading nodes rules (tokens_of words) τ f (state_of s) (outcome_of (joined_outcome s.farthest v)) t
      derived (Success u) e = e.derived
      derived (Failure m) e = e.derived

      tried_both : (v : Outcome) → farthest_of (joined_outcome s.farthest v) ≡ max s.farthest (farthest_of v)
      tried_both (Success u) = refl
      tried_both (Failure m) = refl

-- The captures of what is walked first, put back or not.
module _ {levels : ℕ} {c : Counts} {l : List ℕ} (room : Room levels c l) where
  first_none : (t : Trace) (b : Bool) → t.captures c.around ≡ [] → Lists (cond b (dropped t) t) c l c l
  first_none t true e = lists_none room refl
  first_none t false e = lists_none room e

  -- What is remembered lists nothing.
  first_recalled : (q : Kind) (t : Trace) (m : ℕ) (v : Outcome) → Usable q c.so_far v → Lists (cond (puts_back (word_of q) (joined_outcome m v)) (dropped t) t) c l c l
  first_recalled q t m (Failure f) e = lists_none room refl
  first_recalled q t m (Success u) e = by_kind (eqb (word_of q) 5) refl
    where
      by_kind : (b : Bool) → eqb (word_of q) 5 ≡ b → Lists (cond b (dropped t) t) c l c l
      by_kind true p = lists_none room refl
      by_kind false p = lists_quiet room (quiet_count (word_of q) c.so_far e p) t

  first_back :
      {c' : Counts} {l' : List ℕ} {o : Outcome} (q : ℕ) (t : Trace) (b : Bool)
      → b ≡ true
      → Leaves t (hushed q c) l c' l' o
      → Lists (cond b (dropped t) t) c l (with_counts c'.around c.so_far) l'
  first_back q t b e x = rw e (lists_back room t (keeps_hushed room q (left_keeps x)))

  first_on :
      {c' : Counts} {l' : List ℕ} (q : ℕ) (t : Trace) (m : ℕ) (v : Outcome)
      → puts_back q (joined_outcome m v) ≡ false
      → Leaves t (hushed q c) l c' l' v
      → Lists (cond (puts_back q (joined_outcome m v)) (dropped t) t) c l c' l'
  first_on {c'} {l'} q t m (Success u) e x =
      rw e (subst (λ (k : Counts). Lists t k l c' l') (sym (not_hushed q c (eqb-false q 5 e))) (left_lists x))
  first_on q t m (Failure f) e x = absurd (true≢false e)

-- The walk of what is walked first.
module _ {reading : Reading} {nodes rules words : List ℕ} {n : ℕ} {q : Kind} {r : ℕ} {s : State} (h : ReadyFirst reading nodes rules words n q r s) where
  pub first_token : ReadyToken words
  first_token = token_ready h.ready

  pub first_kind : 9 < kind_of nodes n → ⊥
  first_kind f = let k = kind_there nodes rules h.ready.checked.table n h.ready.node in omega arith

  -- Whether it is a terminal, by its own kind.
  module _ {own : Kind} (tie : word_of own ≡ kind_of nodes n) where
    pub is_token : own ≡ Terminal → kind_of nodes n ≡ 1
    is_token e = sym tie ∙ ap word_of e

    pub no_token : (own ≡ Terminal → ⊥) → kind_of nodes n ≡ 1 → ⊥
    no_token f e = f (is_terminal own (tie ∙ e))

  abbrev First : ℕ → Counts → List ℕ → Outcome → Counts → List ℕ → Type 0
  First τ c l o c' l' = WalkedFirst q reading nodes rules words τ (form nodes n) (child_state reading q r s) c l o c' l'

  -- A terminal, in the state i that the form makes.
  pub out_token :
      {i : State}
      → i ≡ child_state reading q r s
      → {c : Counts} {l : List ℕ}
      → Room (weight nodes rules words n (child_state reading q r s)) c l
      → {τ : ℕ}
      → kind_of nodes n ≡ 1
      → (o : Outcome)
      → o ≡ token_outcome words τ (a_of nodes n) i
      → First τ c l o c l
  out_token {i} y room {τ} p o e =
      let g : Gives reading nodes rules words τ (form nodes n) i (token_outcome words τ (a_of nodes n) i) (tried i.place) =
      rw (formed nodes n 1 p) (token_gives reading nodes rules words τ (a_of nodes n) i) in
      let x : Gives reading nodes rules words τ (form nodes n) i o (tried i.place) = rw e g in
      let z : Gives reading nodes rules words τ (form nodes n) (child_state reading q r s) o (tried i.place) =
      subst (λ (u : State). Gives reading nodes rules words τ (form nodes n) u o (tried i.place)) y x in
      record { shown = tried i.place; gives = z; left = first_none room (tried i.place) (puts_back (word_of q) o) refl }

  -- Another node, in that state g, or in i, the same as if nothing was tried.
  module _ {g i : State} (made : g ≡ child_state reading q r s) (untried : i ≡ with_farthest g 0) where
    y : i ≡ with_farthest (child_state reading q r s) 0
    y = untried ∙ ap (λ (u : State). with_farthest u 0) made

    -- To the expression walk of a node that is no terminal.
    pub first_less :
        (kind_of nodes n ≡ 1 → ⊥)
        → {T : ℕ}
        → cond (eqb (word_of q) 1) 0 (2 * weight nodes rules words n (child_state reading q r s) + 2) ≡ T
        → 2 * weight nodes rules words n i + 1 < T
    first_less f {T} e = rw (y, weight_untried nodes rules words n (child_state reading q r s)) (by_test (eqb (word_of q) 1) refl e)
      where
        by_test :
            (t : Bool)
            → eqb (word_of q) 1 ≡ t
            → cond t 0 (2 * weight nodes rules words n (child_state reading q r s) + 2) ≡ T
            → 2 * weight nodes rules words n (child_state reading q r s) + 1 < T
        by_test true p k = absurd (f (h.terminal (is_terminal q (eqb-true (word_of q) 1 p))))
        by_test false p k = omega arith

    pub first_ready : Ready nodes rules words n i
    first_ready = rw y (ready_untried h.ready)

    pub first_room :
        {c c' : Counts} {l : List ℕ} {k : ℕ} → k ≡ word_of q → c' ≡ hushed k c → Room (weight nodes rules words n (child_state reading q r s)) c l → Room (weight nodes rules words n i) c' l
    first_room word z room = rw (z, word, y, weight_untried nodes rules words n (child_state reading q r s)) (room_hushed room (word_of q))

    -- An outcome v from there may be remembered, as it has a derivation.
    pub remembers_walked :
        {memory memory' : List ℕ} {τ : ℕ} {v : Outcome} {c c' : Counts} {l l' : List ℕ} {j : State}
        → Remembering reading nodes rules words memory
        → Walked reading nodes rules words τ (form nodes n) i c l v c' l'
        → j ≡ child_state reading q r s
        → Stored memory n τ j v memory'
        → Remembering reading nodes rules words memory'
    remembers_walked {memory} {memory'} {τ} {v} {j = j} k x p e = ⊎_elim newly (λ (z : memory' ≡ memory). rw z k) e
      where
        same : i ≡ record { place = j.place; farthest = 0; interval = j.interval; flag = j.flag }
        same = rw (y, p) refl

        newly : memory' ≡ kept memory n τ j.place j.interval j.flag v → Remembering reading nodes rules words memory'
        newly z =
            rw z
            (remembers_kept k n τ j.place j.interval j.flag v
            (record { shown = x.shown; gives = subst (λ (u : State). Gives reading nodes rules words τ (form nodes n) u v x.shown) same x.gives }))

    -- What v is, with what was tried before joined to it.
    module _ {τ : ℕ} {v o : Outcome} (w : o ≡ joined_outcome g.farthest v) where
      given_there :
          {t : Trace}
          → Gives reading nodes rules words τ (form nodes n) i v t
          → Gives reading nodes rules words τ (form nodes n) (child_state reading q r s) o t
      given_there {t} d =
          rw (w, made)
          (gives_joined reading nodes rules words v (subst (λ (u : State). Gives reading nodes rules words τ (form nodes n) u v t) y d))

      module _ {c : Counts} {l : List ℕ} (room : Room (weight nodes rules words n (child_state reading q r s)) c l) where
        -- A remembered outcome.
        pub out_recalled :
            {memory : List ℕ}
            → Remembering reading nodes rules words memory
            → Recalls memory q n τ g c.so_far (found v)
            → First τ c l o c l
        out_recalled {memory} remembers x =
            let d = remembers.each n τ g.place g.interval g.flag v x.0 in
            let f = subst (λ (u : State). Gives reading nodes rules words τ (form nodes n) u v d.shown) (sym untried) d.gives in
            record { shown = d.shown; gives = given_there f; left = rw w (first_recalled room q d.shown g.farthest v x.1) }

        -- The expression walk's outcome, and the test whether its captures are put back.
        module _ {j : ℕ} (word : j ≡ word_of q) {d : Counts} (z : d ≡ hushed j c) {c' : Counts} {l' : List ℕ} (x : Walked reading nodes rules words τ (form nodes n) i d l v c' l') {t : Bool}
            (e : t ≡ puts_back j o) where
          leaves : Leaves x.shown (hushed (word_of q) c) l c' l' v
          leaves = subst (λ (k : Counts). Leaves x.shown k l c' l' v) (z ∙ ap (λ (i : ℕ). hushed i c) word) x.left

          same : puts_back j o ≡ puts_back (word_of q) o
          same = ap (λ (i : ℕ). puts_back i o) word

          pub out_back : t ≡ true → First τ c l o (with_counts c'.around c.so_far) l'
          out_back k = record { shown = x.shown; gives = given_there x.gives; left = first_back room (word_of q) x.shown (puts_back (word_of q) o) (sym (e ∙ same) ∙ k) leaves }

          pub out_on : t ≡ false → First τ c l o c' l'
          out_on k =
              let p : puts_back (word_of q) o ≡ false = sym (e ∙ same) ∙ k in
              record { shown = x.shown; gives = given_there x.gives; left = rw w (first_on room (word_of q) x.shown g.farthest v (rw w at p) leaves) }

-- After the rule walk, with one more around and one more so far inside.
module _ {reading : Reading} {nodes rules words : List ℕ} (x : ℕ) {s : State} {c : Counts} {l : List ℕ} (room : Room (weight nodes rules words (stands_for rules x) s + 1) c l) {k : ℕ}
    (more : k ≡ one_more c.so_far) {τ : ℕ} {o : Outcome} {c' : Counts} {l' : List ℕ}
    (d : Walked reading nodes rules words τ (form nodes (stands_for rules x)) s (with_counts (c.around + 1) k) l o c' l') where
  abbrev Inside_rule : Outcome → Type 0
  Inside_rule v = Walked reading nodes rules words τ (form nodes (stands_for rules x)) s (with_counts (c.around + 1) k) l v c' l'

  abbrev By_rule : Outcome → List ℕ → Type 0
  By_rule v l'' = Walked reading nodes rules words τ (table.rule x) s c l v (with_counts c.around c'.so_far) l''

  pub rule_failed : (m : ℕ) → o ≡ Failure m → By_rule (Failure m) l'
  rule_failed m e =
      let f : Inside_rule (Failure m) = rw e at d in
      record {
        shown = captured x s.place (outcome_of (Failure m)) f.shown;
        gives = made reading nodes rules words (give.rule f.gives.derived) f.gives.looked;
        left = keeps (keeps_rule (weight nodes rules words (stands_for rules x) s) room more (left_keeps f.left));
      }

  pub rule_read :
      (u : State)
      → o ≡ Success u
      → {l'' : List ℕ}
      → l'' ≡ capture_put c.so_far (record { rule = x; first = s.place; after = u.place; around = c.around }) l'
      → By_rule (Success u) l''
  rule_read u e y =
      let f : Inside_rule (Success u) = rw e at d in
      record {
        shown = captured x s.place (outcome_of (Success u)) f.shown;
        gives = made reading nodes rules words (give.rule f.gives.derived) f.gives.looked;
        left =
            lists
            (lists_rule (weight nodes rules words (stands_for rules x) s) room more x s.place (state_of u)
            (left_lists f.left) (rw y (noted l' c.so_far _)));
      }
