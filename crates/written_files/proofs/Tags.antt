-- Fields in the order of their tags: fields that are put together from those of each tag are in order, and those are the fields
-- of the tag. All fields in order are put together so.
use Prim.Native.Nat.{ℕ, suc, ◌≤◌}
use mathlib.Core.Path.{◌≡◌, refl, sym, ap, ◌∙◌}
use mathlib.Core.Bool.{Bool, true, false, cond, ◌&&◌, false≢true}
use mathlib.Core.List.{List, [], ◌∷◌, ◌++◌, append-nil, append_assoc}
use mathlib.Core.Logic.{⊎_elim}
use native.Mathlib.Omega.{arith}
use borrow.Author.Tests.{le-leb, leb-true, eq-eqb, eqb-true}
use lib.Dec.{leb, eqb}
use Rattle.table.proofs.Every.{and_left, and_right}
use Rattle.file_fields.specs.Fields.{Field, later_tags, in_order, tagged}
use Rattle.file_shape.specs.Contents.{right_value, right_values}
use Rattle.file_shape.proofs.OrderLaws.{same_or_not}
use Rattle.file_shape.proofs.ShapeLaws.{tagged_append}
use Rattle.written_files.proofs.Tabulated.{Each}

-- Each field has a tag.
abbrev pub AllOf : ℕ → List Field → Type 0
AllOf t fs = Each (λ f. f.tag ≡ t) fs

-- All or none of them have a tag, as the two tags are the same or not.
tagged_all : (t u : ℕ) (fs : List Field) → AllOf t fs → tagged u fs ≡ cond (eqb t u) fs []
unfolding tagged
tagged_all t u fs e = by_test (eqb t u) refl fs e
  where
    by_test : (b : Bool) → eqb t u ≡ b → (fs : List Field) → AllOf t fs → tagged u fs ≡ cond b fs []
    by_test true q [] e = refl
    by_test false q [] e = refl
    by_test true q (f ∷ fs) e = rw (ap (λ (n : ℕ). eqb n u) e.0 ∙ q) (ap (λ (l : List Field). f ∷ l) (by_test true q fs e.1))
    by_test false q (f ∷ fs) e = rw (ap (λ (n : ℕ). eqb n u) e.0 ∙ q) (by_test false q fs e.1)

-- What `later_tags` asks of a field that is not the last.
later_first : (a : ℕ) (f g : Field) (fs : List Field) → later_tags a (f ∷ g ∷ fs) ≡ true → (a ≤ f.tag) × (f.tag ≤ 4) × (later_tags f.tag (g ∷ fs) ≡ true)
unfolding later_tags
later_first a f g fs e =
    let p = and_left (leb a f.tag && leb f.tag 4) (later_tags f.tag (g ∷ fs)) e in (
      leb-true a f.tag (and_left (leb a f.tag) (leb f.tag 4) p),
      leb-true f.tag 4 (and_right (leb a f.tag) (leb f.tag 4) p),
      and_right (leb a f.tag && leb f.tag 4) (later_tags f.tag (g ∷ fs)) e,
    )

-- A field in front.
later_cons : (a : ℕ) (f : Field) (fs : List Field) → a ≤ f.tag → f.tag ≤ 4 → later_tags f.tag fs ≡ true → later_tags a (f ∷ fs) ≡ true
unfolding later_tags
later_cons a f [] h k e = absurd (false≢true e)
later_cons a f (g ∷ fs) h k e = rw (le-leb a f.tag h, le-leb f.tag 4 k) e

-- Fields that may follow a tag may follow a lower one.
later_lower : (a b : ℕ) → b ≤ a → (fs : List Field) → later_tags a fs ≡ true → later_tags b fs ≡ true
unfolding later_tags
later_lower a b h [] e = e
later_lower a b h (f ∷ []) e = e
later_lower a b h (f ∷ g ∷ fs) e = let x = later_first a f g fs e in later_cons b f (g ∷ fs) (omega (arith, x.0)) x.1 x.2

-- Fields of one tag in front.
later_front : (t a : ℕ) → a ≤ t → t ≤ 4 → (xs fs : List Field) → AllOf t xs → later_tags t fs ≡ true → later_tags a (xs ++ fs) ≡ true
later_front t a h k [] fs p e = later_lower t a h fs e
later_front t a h k (x ∷ xs) fs p e =
    later_cons a x (xs ++ fs) (omega (arith, p.0)) (omega (arith, p.0)) (later_front t x.tag (omega (arith, p.0)) k xs fs p.1 e)

-- Every value is right where each is.
pub values_right : (fs : List Field) → Each (λ f. right_value f ≡ true) fs → right_values fs ≡ true
unfolding right_values
values_right [] e = refl
values_right (f ∷ fs) e = rw e.0 (values_right fs e.1)

-- And each is right where every one is.
pub values_each : (fs : List Field) → right_values fs ≡ true → Each (λ f. right_value f ≡ true) fs
unfolding right_values
values_each [] e = tt
values_each (f ∷ fs) e = (and_left (right_value f) (right_values fs) e, values_each fs (and_right (right_value f) (right_values fs) e))

-- Fields put together from those of each tag.
pub record Runs (fs : List Field) : Type 0 where
  pub one : Field
  pub twos : List Field
  pub threes : List Field
  pub fours : List Field
  pub five : Field
  pub t1 : one.tag ≡ 1
  pub t2 : AllOf 2 twos
  pub t3 : AllOf 3 threes
  pub t4 : AllOf 4 fours
  pub t5 : five.tag ≡ 5
  pub split : one ∷ (twos ++ threes ++ fours ++ (five ∷ [])) ≡ fs

-- The fields of a tag among them.
abbrev by_tag : {fs : List Field} → Runs fs → ℕ → List Field
by_tag r u =
    cond (eqb 1 u) (r.one ∷ []) []
    ++ (cond (eqb 2 u) r.twos [] ++ cond (eqb 3 u) r.threes [] ++ cond (eqb 4 u) r.fours [] ++ cond (eqb 5 u) (r.five ∷ []) [])

module _ (fs : List Field) (r : Runs fs) where
  -- Such fields are in order.
  pub in_order_lem : in_order fs ≡ true
  unfolding in_order later_tags
  in_order_lem =
      ap in_order (sym r.split)
      ∙ rw (
        eq-eqb r.one.tag 1 r.t1,
        append_assoc (r.twos ++ r.threes) r.fours (r.five ∷ []),
        append_assoc r.twos r.threes (r.fours ++ (r.five ∷ [])),
      )
      (later_front 2 2 (omega arith) (omega arith) r.twos _ r.t2
      (later_front 3 2 (omega arith) (omega arith) r.threes _ r.t3
      (later_front 4 3 (omega arith) (omega arith) r.fours _ r.t4 (eq-eqb r.five.tag 5 r.t5))))

  -- The fields of any tag.
  tagged_runs : (u : ℕ) → tagged u fs ≡ by_tag r u
  tagged_runs u =
      ap (tagged u) (sym r.split)
      ∙ tagged_append u (r.one ∷ []) (r.twos ++ r.threes ++ r.fours ++ (r.five ∷ []))
      ∙ simp (
        tagged_append,
        tagged_all 1 u (r.one ∷ []) (r.t1, tt),
        tagged_all 2 u r.twos r.t2,
        tagged_all 3 u r.threes r.t3,
        tagged_all 4 u r.fours r.t4,
        tagged_all 5 u (r.five ∷ []) (r.t5, tt),
      )

  -- Tag 2.
  pub tagged_two : tagged 2 fs ≡ r.twos
  tagged_two = simp append-nil at (tagged_runs 2)

  -- Tag 3.
  pub tagged_three : tagged 3 fs ≡ r.threes
  tagged_three = simp append-nil at (tagged_runs 3)

  -- Tag 4.
  pub tagged_four : tagged 4 fs ≡ r.fours
  tagged_four = simp append-nil at (tagged_runs 4)

  -- Tag 5.
  pub tagged_five : tagged 5 fs ≡ r.five ∷ []
  tagged_five = tagged_runs 5

-- Fields that may follow a tag: those of the tag in front, and fields that may follow the next.
record Run (t : ℕ) (fs : List Field) : Type 0 where
  front : List Field
  rest : List Field
  same : AllOf t front
  split : front ++ rest ≡ fs
  later : later_tags (suc t) rest ≡ true

run_of : (t : ℕ) (fs : List Field) → later_tags t fs ≡ true → Run t fs
unfolding later_tags
run_of t [] e = absurd (false≢true e)
run_of t (f ∷ []) e = record { front = []; rest = f ∷ []; same = tt; split = refl; later = e }
run_of t (f ∷ g ∷ fs) e =
    let x = later_first t f g fs e in
    let least = x.0 in
    let next = x.2 in
    ⊎_elim
    (λ d. more d (run_of t (g ∷ fs) (rw d at next)))
    (λ d. record { front = []; rest = f ∷ g ∷ fs; same = tt; split = refl; later = later_cons (suc t) f (g ∷ fs) (omega arith) x.1 next })
    (same_or_not f.tag t)
  where
    more : f.tag ≡ t → Run t (g ∷ fs) → Run t (f ∷ g ∷ fs)
    more d r =
        record {
          front = f ∷ r.front;
          rest = r.rest;
          same = (d, r.same);
          split = ap (λ (l : List Field). f ∷ l) r.split;
          later = r.later;
        }

-- One field of tag 5 ends them.
last_of : (fs : List Field) → later_tags 5 fs ≡ true → (five : Field) × (five.tag ≡ 5) × ((five ∷ []) ≡ fs)
unfolding later_tags
last_of [] e = absurd (false≢true e)
last_of (f ∷ []) e = (f, eqb-true f.tag 5 e, refl)
last_of (f ∷ g ∷ fs) e = let x = later_first 5 f g fs e in absurd (omega (arith, x.0, x.1))

-- All fields in order are put together so.
pub runs_of : (fs : List Field) → in_order fs ≡ true → Runs fs
unfolding in_order
runs_of [] e = absurd (false≢true e)
runs_of (f ∷ fs) e =
    let a = run_of 2 fs (and_right (eqb f.tag 1) (later_tags 2 fs) e) in
    let b = run_of 3 a.rest a.later in
    let c = run_of 4 b.rest b.later in
    let d = last_of c.rest c.later in
    record {
      one = f;
      twos = a.front;
      threes = b.front;
      fours = c.front;
      five = d.0;
      t1 = eqb-true f.tag 1 (and_left (eqb f.tag 1) (later_tags 2 fs) e);
      t2 = a.same;
      t3 = b.same;
      t4 = c.same;
      t5 = d.1;
      split = rw (append_assoc (a.front ++ b.front) c.front (d.0 ∷ []), d.2, c.split, append_assoc, b.split, a.split) refl;
    }
