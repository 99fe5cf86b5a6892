-- The list of captures, over plain values: what is counted and written by one part after another, put back, and by a rule.
use Prim.Native.Nat.{ℕ, zero, suc, ◌+◌, ◌-◌, ◌*◌, ◌/◌, ◌≤◌, ◌<◌, min}
use mathlib.Core.Path.{◌≡◌, refl, sym, ap, subst, ◌∙◌}
use mathlib.Core.Bool.{Bool, true, false}
use mathlib.Core.List.{List, [], ◌∷◌, ◌++◌}
use lib.ListN.{length, get_or, set, length-set, length-append, get_or-append}
use lib.Seq.{get_or-set_same, get_or-set_other}
use lib.Dec.{ltb}
use native.Mathlib.Omega.{arith}
use borrow.Author.Tests.{ltb-true, ltb-false, lt-ltb, le-ltb}
use Rattle.table.specs.Words.{each_words}
use Rattle.table.proofs.Words.{words_append}
use Rattle.columns.specs.declared.Capture.{Capture}
use Rattle.columns.specs.declared.State.{State}
use Rattle.columns.specs.declared.Outcome.{Outcome}
use Rattle.columns.specs.declared.Outcome.TheVariants.{Success, Failure}
use Rattle.columns.specs.declared.Interval.{Interval}
use Rattle.clauses.specs.Clauses as clauses
use Rattle.clauses.specs.Trace.{Trace, ◌then◌, dropped, captured}
use Rattle.clauses.specs.ListAnswer.{capture_words}
use Rattle.clauses.proofs.ListWords.{words_long}
use Rattle.capture_list.specs.Put.{most_count, one_more, placed, capture_put}
use Rattle.capture_list.specs.declared.Counts.{Counts}
use Rattle.capture_list.specs.InternalList.{with_counts, Room, Keeps, shown_in, Lists, Leaves, lists, keeps}

-- The words of captures.
abbrev words_of : List Capture → List ℕ
words_of cs = each_words capture_words cs

pub behind : (l m : List ℕ) (i j : ℕ) → i ≡ length l + j → get_or (l ++ m) i 0 ≡ get_or m j 0
behind [] m i j e = let d : i ≡ j = omega arith in rw d refl
behind (x ∷ l) m zero j e = absurd (omega arith)
behind (x ∷ l) m (suc i) j e = behind l m i j (omega arith)

pub left_lists : {c c' : Counts} {l l' : List ℕ} {t : Trace} {u : State} → Leaves t c l c' l' (Success u) → Lists t c l c' l'
left_lists (lists x) = x

pub left_keeps : {c c' : Counts} {l l' : List ℕ} {t : Trace} {o : Outcome} → Leaves t c l c' l' o → Keeps c l c' l'
left_keeps (lists x) = x.keeps
left_keeps (keeps x) = x

module _ {levels : ℕ} {c : Counts} {l : List ℕ} (room : Room levels c l) where
  keeps_all : Keeps c l c l
  keeps_all = record { around = refl; long = refl; before = λ i b. refl }

  -- Nothing is captured.
  pub lists_none : {t : Trace} → shown_in c t ≡ [] → Lists t c l c l
  lists_none {t} e =
      record {
        keeps = keeps_all;
        count = rw e (omega (arith, room.count));
        there = λ f i b. absurd (let z : i < 0 = rw e at b in omega arith);
      }

  pub left_none : {t : Trace} (o : Outcome) → shown_in c t ≡ [] → Leaves t c l c l o
  left_none (Success u) e = lists (lists_none e)
  left_none (Failure farthest) e = keeps keeps_all

  -- One part after another.
  pub keeps_then : {c' c'' : Counts} {l' l'' : List ℕ} {t : Trace} → Lists t c l c' l' → Keeps c' l' c'' l'' → Keeps c l c'' l''
  keeps_then x y =
      record {
        around = y.around ∙ x.keeps.around;
        long = y.long ∙ x.keeps.long;
        before = λ i b. y.before i (omega (arith, room.count, x.count)) ∙ x.keeps.before i b;
      }

  module _ {c' c'' : Counts} {l' l'' : List ℕ} (t u : Trace) (x : Lists t c l c' l') (y : Lists u c' l' c'' l'') where
    abbrev cs : List Capture
    cs = shown_in c t

    abbrev ds : List Capture
    ds = shown_in c u

    -- The second part with as many around as the first.
    second : (P : List Capture → Type 0) → P (shown_in c' u) → P ds
    second P p = subst (λ (k : ℕ). P (u.captures k)) x.keeps.around p

    second_count : c''.so_far ≡ min (c'.so_far + length ds) most_count
    second_count = second (λ (z : List Capture). c''.so_far ≡ min (c'.so_far + length z) most_count) y.count

    second_there :
        (c'.so_far + length ds) * 4 ≤ length l'
        → (i : ℕ)
        → i < length ds * 4
        → get_or l'' (c'.so_far * 4 + i) 0 ≡ get_or (words_of ds) i 0
    second_there =
        second
        (λ (z : List Capture).
        (c'.so_far + length z) * 4 ≤ length l' → (i : ℕ) → i < length z * 4 → get_or l'' (c'.so_far * 4 + i) 0 ≡ get_or (words_of z) i 0)
        y.there

    both_there :
        (c.so_far + (length cs + length ds)) * 4 ≤ length l
        → (i : ℕ)
        → i < (length cs + length ds) * 4
        → get_or l'' (c.so_far * 4 + i) 0 ≡ get_or (words_of cs ++ words_of ds) i 0
    both_there f i b = by_part (ltb i (length cs * 4)) refl
      where
        so_far_lem : c'.so_far ≡ c.so_far + length cs
        so_far_lem = omega (arith, x.count, room.long)

        by_part : (p : Bool) → ltb i (length cs * 4) ≡ p → get_or l'' (c.so_far * 4 + i) 0 ≡ get_or (words_of cs ++ words_of ds) i 0
        by_part true e =
            let a = ltb-true i (length cs * 4) e in
            let m = words_long cs in
            y.keeps.before (c.so_far * 4 + i) (omega (arith, so_far_lem))
            ∙ x.there (omega arith) i a
            ∙ sym (get_or-append (words_of cs) (words_of ds) 0 i (omega arith))
        by_part false e =
            let a = ltb-false i (length cs * 4) e in
            let m = words_long cs in
            let q : c.so_far * 4 + i ≡ c'.so_far * 4 + (i - length cs * 4) = omega (arith, so_far_lem) in
            ap (λ (k : ℕ). get_or l'' k 0) q
            ∙ second_there (omega (arith, so_far_lem, x.keeps.long)) (i - length cs * 4) (omega arith)
            ∙ sym (behind (words_of cs) (words_of ds) i (i - length cs * 4) (omega arith))

    pub lists_then : Lists (t then u) c l c'' l''
    lists_then =
        record {
          keeps = keeps_then x y.keeps;
          count = let e = length-append cs ds in omega (arith, x.count, second_count);
          there = rw (words_append capture_words cs ds, length-append cs ds) both_there;
        }

  pub then_left :
      {c' c'' : Counts} {l' l'' : List ℕ} {o : Outcome} {t u : Trace}
      → Lists t c l c' l'
      → Leaves u c' l' c'' l'' o
      → Leaves (t then u) c l c'' l'' o
  then_left {t = t} {u = u} x (lists y) = lists (lists_then t u x y)
  then_left x (keeps y) = keeps (keeps_then x y)

  -- The count is put back.
  pub lists_back : {c' : Counts} {l' : List ℕ} (t : Trace) → Keeps c l c' l' → Lists (dropped t) c l (with_counts c'.around c.so_far) l'
  lists_back t x =
      record {
        keeps = record { around = x.around; long = x.long; before = x.before };
        count = omega (arith, room.count);
        there = λ f i b. absurd (omega arith);
      }

  -- There is room for what follows.
  pub room_less : (k : ℕ) → k ≤ levels → Room k c l
  room_less k h = record { deep = omega (arith, room.deep); count = room.count; long = room.long }

  pub room_then : {c' : Counts} {l' : List ℕ} {t : Trace} (k : ℕ) → k ≤ levels → Lists t c l c' l' → Room k c' l'
  room_then k h x =
      record {
        deep = omega (arith, room.deep, x.keeps.around);
        count = omega (arith, x.count);
        long = omega (arith, room.long, x.keeps.long);
      }

-- One capture is put at a place, or there is no such place: what holds of the slice then.
pub record Noted (n : ℕ) (c : Capture) (list list' : List ℕ) : Type 0 where
  pub long : length list' ≡ length list
  pub before : (i : ℕ) → i < n * 4 → get_or list' i 0 ≡ get_or list i 0
  pub behind : (i : ℕ) → n * 4 + 4 ≤ i → get_or list' i 0 ≡ get_or list i 0
  pub there : n * 4 + 3 < length list → (i : ℕ) → i < 4 → get_or list' (n * 4 + i) 0 ≡ get_or (capture_words c) i 0

module _ (l : List ℕ) (n : ℕ) (c : Capture) where
  abbrev one : List ℕ
  one = set l (n * 4) c.rule

  abbrev two : List ℕ
  two = set one (n * 4 + 1) c.first

  abbrev three : List ℕ
  three = set two (n * 4 + 2) c.after

  others :
      (i : ℕ)
      → (i ≡ n * 4 → ⊥)
      → (i ≡ n * 4 + 1 → ⊥)
      → (i ≡ n * 4 + 2 → ⊥)
      → (i ≡ n * 4 + 3 → ⊥)
      → get_or (placed n c l) i 0 ≡ get_or l i 0
  others i p q r s =
      get_or-set_other three (n * 4 + 3) i c.around 0 s
      ∙ get_or-set_other two (n * 4 + 2) i c.after 0 r
      ∙ get_or-set_other one (n * 4 + 1) i c.first 0 q
      ∙ get_or-set_other l (n * 4) i c.rule 0 p

  noted_there : n * 4 + 3 < length l → (i : ℕ) → i < 4 → get_or (placed n c l) (n * 4 + i) 0 ≡ get_or (capture_words c) i 0
  noted_there h zero b =
      ap (λ (i : ℕ). get_or (placed n c l) i 0) (omega arith)
      ∙ get_or-set_other three (n * 4 + 3) (n * 4) c.around 0 (λ e. omega arith)
      ∙ get_or-set_other two (n * 4 + 2) (n * 4) c.after 0 (λ e. omega arith)
      ∙ get_or-set_other one (n * 4 + 1) (n * 4) c.first 0 (λ e. omega arith)
      ∙ get_or-set_same l (n * 4) c.rule 0 (omega arith)
  noted_there h (suc zero) b =
      get_or-set_other three (n * 4 + 3) (n * 4 + 1) c.around 0 (λ e. omega arith)
      ∙ get_or-set_other two (n * 4 + 2) (n * 4 + 1) c.after 0 (λ e. omega arith)
      ∙ get_or-set_same one (n * 4 + 1) c.first 0 (simp length-set (omega arith))
  noted_there h (suc (suc zero)) b =
      get_or-set_other three (n * 4 + 3) (n * 4 + 2) c.around 0 (λ e. omega arith)
      ∙ get_or-set_same two (n * 4 + 2) c.after 0 (simp length-set (omega arith))
  noted_there h (suc (suc (suc zero))) b = get_or-set_same three (n * 4 + 3) c.around 0 (simp length-set (omega arith))
  noted_there h (suc (suc (suc (suc i)))) b = absurd (omega arith)

  -- What `capture_put` is where the place is there, and where not.
  pub put_there : n < length l / 4 → placed n c l ≡ capture_put n c l
  unfolding capture_put
  put_there h = rw (lt-ltb n (length l / 4) h) refl

  pub put_nowhere : length l / 4 ≤ n → l ≡ capture_put n c l
  unfolding capture_put
  put_nowhere h = rw (le-ltb n (length l / 4) h) refl

  pub noted : Noted n c l (capture_put n c l)
  noted = by_room (ltb n (length l / 4)) refl
    where
      by_room : (p : Bool) → ltb n (length l / 4) ≡ p → Noted n c l (capture_put n c l)
      by_room true e =
          let h = ltb-true n (length l / 4) e in
          rw (← put_there h)
          (record {
            long = simp length-set refl;
            before = λ i b. others i (λ e. omega arith) (λ e. omega arith) (λ e. omega arith) (λ e. omega arith);
            behind = λ i b. others i (λ e. omega arith) (λ e. omega arith) (λ e. omega arith) (λ e. omega arith);
            there = noted_there;
          })
      by_room false e =
          let h = ltb-false n (length l / 4) e in
          rw (← put_nowhere h)
          (record { long = refl; before = λ i b. refl; behind = λ i b. refl; there = λ r i b. absurd (omega arith) })

-- A rule: with one more around and one more so far inside.
module _ (levels : ℕ) {c : Counts} {l : List ℕ} (room : Room (levels + 1) c l) {n : ℕ} (more : n ≡ one_more c.so_far) where
  module _ {c' : Counts} {l' : List ℕ} where
    pub keeps_rule : Keeps (with_counts (c.around + 1) n) l c' l' → Keeps c l (with_counts c.around c'.so_far) l'
    keeps_rule x = record { around = refl; long = x.long; before = λ i b. x.before i (omega (arith, more, room.count)) }

    module _ {l'' : List ℕ} (x w : ℕ) (u : clauses.State Interval) {t : Trace} (h : Lists t (with_counts (c.around + 1) n) l c' l')
        (z : Noted c.so_far (record { rule = x; first = w; after = u.0; around = c.around }) l' l'') where
      abbrev all : List Capture
      all = shown_in c (captured x w (clauses.success u) t)

      rule_there : (c.so_far + length all) * 4 ≤ length l → (i : ℕ) → i < length all * 4 → get_or l'' (c.so_far * 4 + i) 0 ≡ get_or (words_of all) i 0
      unfolding each_words
      rule_there f zero b = z.there (omega (arith, h.keeps.long)) 0 (omega arith)
      rule_there f (suc zero) b = z.there (omega (arith, h.keeps.long)) 1 (omega arith)
      rule_there f (suc (suc zero)) b = z.there (omega (arith, h.keeps.long)) 2 (omega arith)
      rule_there f (suc (suc (suc zero))) b = z.there (omega (arith, h.keeps.long)) 3 (omega arith)
      rule_there f (suc (suc (suc (suc i)))) b =
          let e : c.so_far * 4 + suc (suc (suc (suc i))) ≡ n * 4 + i = omega (arith, more, room.long) in
          z.behind (c.so_far * 4 + suc (suc (suc (suc i)))) (omega arith)
          ∙ ap (λ (k : ℕ). get_or l' k 0) e
          ∙ h.there (omega (arith, more, room.long)) i (omega arith)

      pub lists_rule : Lists (captured x w (clauses.success u) t) c l (with_counts c.around c'.so_far) l''
      lists_rule =
          record {
            keeps =
                record {
                  around = refl;
                  long = z.long ∙ h.keeps.long;
                  before = λ i b. z.before i b ∙ h.keeps.before i (omega (arith, more, room.count));
                };
            count = omega (arith, more, h.count);
            there = rule_there;
          }
