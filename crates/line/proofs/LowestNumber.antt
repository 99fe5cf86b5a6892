-- The line's number is the lowest that any of the four parts gives, and where the line has none no part gives one.
use Prim.Native.Nat.{ℕ, zero, suc, ◌≤◌, ◌*◌}
use mathlib.Core.Path.{◌≡◌, refl}
use mathlib.Core.Bool.{Bool, true, false, cond, false≢true}
use mathlib.Core.List.{List}
use mathlib.Core.Logic.{◌⊎◌, inl, inr, ⊎_elim}
use native.Mathlib.Omega.{arith}
use Rattle.table.specs.Answer.{Answer, given, refused, refused_at, refuse_if, and_then}
use Rattle.table.specs.Checks.{fails3, fails4, fails5, table_answer}
use Rattle.table.specs.Form.{node_count}
use Rattle.table.specs.Limits.{most_nodes, most_rules, most_tokens}
use Rattle.file_fields.specs.Fields.{Field}
use Rattle.columns.specs.declared.Start.{Start}
use Rattle.columns.specs.declared.Reading.TheVariants.{By2017}
use Rattle.clauses.specs.RunAnswer.{Ended, our_end, run_answer}
use lib.ListN.{length}
use Rattle.grammar_file.specs.File.{Contents, fields_of, node_table, rule_list, start_node, start_mode, fails1, fails2, fails5_by_file, fails6, contents, file_answer, read_answer}
use Rattle.token_words.specs.Places.{places}
use Rattle.token_words.specs.Scan.{words_of, scan_tokens, scan_answer, fails8, fails9, fails10}
use Rattle.well_formed.specs.Check.{check_answer, verdict_from, is_well}
use Rattle.clauses.specs.Limits.{fails11, fails12, fails16}
use Rattle.line.specs.Line.{start_at, after_parts, line_answer}
use Rattle.line.specs.Lowest.{Refuses, Gives, by_reader, by_check, by_scanner, by_interpreter, Lowest}

-- A number that an answer refuses with is at least k.
abbrev Over : {A : Type 0} → ℕ → Answer A → Type 0
Over {A} k x = (m : ℕ) → Refuses x m → k ≤ m

-- A value is no refusal.
no_refusal : {A : Type 0} {y : A} {number : ℕ} → given y ≡ refused number → ⊥
no_refusal e = let z : ◌≡◌ {A = ℕ} 0 1 = cc in omega arith

no_refusal_at : {A : Type 0} {y : A} {number node : ℕ} → given y ≡ refused_at number node → ⊥
no_refusal_at e = let z : ◌≡◌ {A = ℕ} 0 1 = cc in omega arith

-- A verdict refuses with 7 only.
abbrev Seven : Answer Unit → Type 0
Seven (given t) = Unit
Seven (refused number) = ⊥
Seven (refused_at number node) = number ≡ 7

one_verdict : (n : ℕ) (b : Bool) (rest : Answer Unit) → Seven rest → Seven (cond b rest (refused_at 7 n))
one_verdict n true rest s = s
one_verdict n false rest s = refl

verdict_seven : (well : ℕ → Bool) (n left : ℕ) → Seven (verdict_from well n left)
unfolding verdict_from
verdict_seven well n zero = tt
verdict_seven well n (suc left) = one_verdict n (well n) (verdict_from well (suc n) left) (verdict_seven well (suc n) left)

-- The parts' answers by the results of their checks: t5 is the table's own 5, f5 the file's.
abbrev of_file : {A : Type 0} (f1 f2 f3 f4 f5 : Bool) → Contents → Answer A → Answer A
of_file f1 f2 f3 f4 f5 c next = and_then (refuse_if f1 1 (refuse_if f2 2 (refuse_if f3 3 (refuse_if f4 4 (refuse_if f5 5 (given c)))))) next

abbrev checked : (f3 f4 t5 : Bool) → Answer Unit → Answer Unit
checked f3 f4 t5 v = and_then {B = Unit} (refuse_if f3 3 (refuse_if f4 4 (refuse_if t5 5 (given tt)))) v

abbrev scanned : (g8 g9 g10 : Bool) → ℕ → Answer ℕ
scanned g8 g9 g10 count = refuse_if g8 8 (refuse_if g9 9 (refuse_if g10 10 (given count)))

abbrev ran : (e11 e12 : Bool) → Ended → Answer Ended
ran e11 e12 x = refuse_if e11 11 (refuse_if e12 12 (given x))

-- n is the lowest of what four answers refuse with.
record Least {A B C : Type 0} (read : Answer B) (check : Answer Unit) (scan : Answer C) (run : Answer A) (n : ℕ) : Type 0 where
  over_read : Over n read
  over_check : Over n check
  over_scan : Over n scan
  over_run : Over n run
  one_of : Refuses read n ⊎ (Refuses check n ⊎ (Refuses scan n ⊎ Refuses run n))

-- What a number up to 3 leaves open in the check, one up to 8 in the scanner behind the file, and one up to 11 in the run.
over_checked : (k : ℕ) (f3 f4 t5 : Bool) (v : Answer Unit) → k ≤ 3 → Seven v → Over k (checked f3 f4 t5 v)
over_checked k true f4 t5 v h s m e = omega arith
over_checked k false true t5 v h s m e = omega arith
over_checked k false false true v h s m e = omega arith
over_checked k false false false (refused_at number node) h s m e = omega arith
over_checked k false false false (given t) h s m e = absurd e
over_checked k false false false (refused number) h s m e = absurd s

over_verdict : (k : ℕ) (v : Answer Unit) → k ≤ 7 → Seven v → Over k v
over_verdict k (refused_at number node) h s m e = omega arith
over_verdict k (given t) h s m e = absurd e
over_verdict k (refused number) h s m e = absurd s

over_scanned : (k : ℕ) (g8 g9 g10 : Bool) (count : ℕ) → k ≤ 8 → Over k (scanned g8 g9 g10 count)
over_scanned k true g9 g10 count h m e = omega arith
over_scanned k false true g10 count h m e = omega arith
over_scanned k false false true count h m e = omega arith
over_scanned k false false false count h m e = absurd e

over_ran : (k : ℕ) (check : Answer Unit) (e11 e12 : Bool) (x : Ended) → k ≤ 11 → Over k check → Over k (and_then check (ran e11 e12 x))
over_ran k (given t) true e12 x h o m e = omega arith
over_ran k (given t) false true x h o m e = omega arith
over_ran k (given t) false false x h o m e = absurd e
over_ran k (refused number) e11 e12 x h o m e = o m e
over_ran k (refused_at number node) e11 e12 x h o m e = o m e

-- The line's number is the least, by the checks one after the other.
module _ (e11 e12 : Bool) (count : ℕ) (c : Contents) (x : Ended) where
  abbrev Lowers : (f1 f2 f3 f4 f5 t5 f6 g8 g9 g10 : Bool) → Answer Unit → ℕ → Type 0
  Lowers f1 f2 f3 f4 f5 t5 f6 g8 g9 g10 v n =
      let read = of_file f1 f2 f3 f4 f5 c (refuse_if f6 6 (given c)) in
      let check = checked f3 f4 t5 v in
      let scan = of_file f1 f2 f3 f4 f5 c (scanned g8 g9 g10 count) in
      let run = and_then check (ran e11 e12 x) in
      Refuses (and_then read (and_then check (and_then scan run))) n → Least read check scan run n

  -- The scanner refuses a file that passes.
  refused_report : (k n : ℕ) → k ≤ 10 → n ≡ k → Least {B = Contents} {C = ℕ} (given c) (given tt) (refused k) (ran e11 e12 x) n
  refused_report k n h e =
      record {
        over_read = λ m r. absurd r;
        over_check = λ m r. absurd r;
        over_scan = λ m r. omega arith;
        over_run = over_ran n (given tt) e11 e12 x (omega arith) (λ m r. absurd r);
        one_of = inr (inr (inl e));
      }

  -- The file reader refuses, and the scanner with it.
  refused_file :
      (k n : ℕ) (check : Answer Unit)
      → k ≤ 5
      → Over n check
      → n ≡ k
      → Least {B = Contents} {C = ℕ} (refused k) check (refused k) (and_then check (ran e11 e12 x)) n
  refused_file k n check h o e =
      record { over_read = λ m r. omega arith; over_check = o; over_scan = λ m r. omega arith; over_run = over_ran n check e11 e12 x (omega arith) o; one_of = inl e }

  by_run : (a b : Bool) (k : ℕ) → Refuses (ran a b x) k → Over k (ran a b x)
  by_run true b k p m r = omega arith
  by_run false true k p m r = omega arith
  by_run false false k p m r = absurd p

  -- The file passes 1 to 6 and the check.
  by_scan : (g8 g9 g10 : Bool) (n : ℕ) → Lowers false false false false false false false g8 g9 g10 (given tt) n
  by_scan true g9 g10 n e = refused_report 8 n (omega arith) e
  by_scan false true g10 n e = refused_report 9 n (omega arith) e
  by_scan false false true n e = refused_report 10 n (omega arith) e
  by_scan false false false n e =
      record { over_read = λ m r. absurd r; over_check = λ m r. absurd r; over_scan = λ m r. absurd r; over_run = by_run e11 e12 n e; one_of = inr (inr (inr e)) }

  -- The file passes 1 to 5.
  by_verdict : (f6 g8 g9 g10 : Bool) (v : Answer Unit) (n : ℕ) → Seven v → Lowers false false false false false false f6 g8 g9 g10 v n
  by_verdict true g8 g9 g10 v n s e =
      let o = over_verdict n v (omega arith) s in
      record {
        over_read = λ m r. omega arith;
        over_check = o;
        over_scan = over_scanned n g8 g9 g10 count (omega arith);
        over_run = over_ran n v e11 e12 x (omega arith) o;
        one_of = inl e;
      }
  by_verdict false g8 g9 g10 (refused_at number node) n s e =
      record {
        over_read = λ m r. absurd r;
        over_check = λ m r. omega arith;
        over_scan = over_scanned n g8 g9 g10 count (omega arith);
        over_run = λ m r. omega arith;
        one_of = inr (inl e);
      }
  by_verdict false g8 g9 g10 (refused number) n s e = absurd s
  by_verdict false g8 g9 g10 (given tt) n s e = by_scan g8 g9 g10 n e

  by_file : (f1 f2 f3 f4 f5 t5 f6 g8 g9 g10 : Bool) (v : Answer Unit) (n : ℕ) → Seven v → (t5 ≡ true → f5 ≡ true) → Lowers f1 f2 f3 f4 f5 t5 f6 g8 g9 g10 v n
  by_file true f2 f3 f4 f5 t5 f6 g8 g9 g10 v n s h e = refused_file 1 n (checked f3 f4 t5 v) (omega arith) (over_checked n f3 f4 t5 v (omega arith) s) e
  by_file false true f3 f4 f5 t5 f6 g8 g9 g10 v n s h e = refused_file 2 n (checked f3 f4 t5 v) (omega arith) (over_checked n f3 f4 t5 v (omega arith) s) e
  by_file false false true f4 f5 t5 f6 g8 g9 g10 v n s h e = refused_file 3 n (refused 3) (omega arith) (λ m r. omega arith) e
  by_file false false false true f5 t5 f6 g8 g9 g10 v n s h e = refused_file 4 n (refused 4) (omega arith) (λ m r. omega arith) e
  by_file false false false false true true f6 g8 g9 g10 v n s h e = refused_file 5 n (refused 5) (omega arith) (λ m r. omega arith) e
  by_file false false false false true false f6 g8 g9 g10 v n s h e = refused_file 5 n v (omega arith) (over_verdict n v (omega arith) s) e
  by_file false false false false false true f6 g8 g9 g10 v n s h e = absurd (false≢true (h refl))
  by_file false false false false false false f6 g8 g9 g10 v n s h e = by_verdict f6 g8 g9 g10 v n s e

  -- An outcome: no part refuses.
  abbrev None : (f1 f2 f3 f4 f5 t5 f6 g8 g9 g10 : Bool) → Answer Unit → Ended → ℕ → Type 0
  None f1 f2 f3 f4 f5 t5 f6 g8 g9 g10 v y m =
      let read = of_file f1 f2 f3 f4 f5 c (refuse_if f6 6 (given c)) in
      let check = checked f3 f4 t5 v in
      let scan = of_file f1 f2 f3 f4 f5 c (scanned g8 g9 g10 count) in
      let run = and_then check (ran e11 e12 x) in
      given y ≡ and_then read (and_then check (and_then scan run)) → Refuses read m ⊎ (Refuses check m ⊎ (Refuses scan m ⊎ Refuses run m)) → ⊥

  none_run : (a b : Bool) (y : Ended) (m : ℕ) → given y ≡ ran a b x → Refuses (ran a b x) m → ⊥
  none_run true b y m e r = no_refusal e
  none_run false true y m e r = no_refusal e
  none_run false false y m e r = r

  none_scan : (g8 g9 g10 : Bool) (y : Ended) (m : ℕ) → None false false false false false false false g8 g9 g10 (given tt) y m
  none_scan true g9 g10 y m e r = no_refusal e
  none_scan false true g10 y m e r = no_refusal e
  none_scan false false true y m e r = no_refusal e
  none_scan false false false y m e r = ⊎_elim (λ z. z) (⊎_elim (λ z. z) (⊎_elim (λ z. z) (none_run e11 e12 y m e))) r

  none_file :
      (f1 f2 f3 f4 f5 t5 f6 g8 g9 g10 : Bool) (v : Answer Unit) (y : Ended) (m : ℕ)
      → (t5 ≡ true → f5 ≡ true)
      → None f1 f2 f3 f4 f5 t5 f6 g8 g9 g10 v y m
  none_file true f2 f3 f4 f5 t5 f6 g8 g9 g10 v y m h e r = no_refusal e
  none_file false true f3 f4 f5 t5 f6 g8 g9 g10 v y m h e r = no_refusal e
  none_file false false true f4 f5 t5 f6 g8 g9 g10 v y m h e r = no_refusal e
  none_file false false false true f5 t5 f6 g8 g9 g10 v y m h e r = no_refusal e
  none_file false false false false true t5 f6 g8 g9 g10 v y m h e r = no_refusal e
  none_file false false false false false true f6 g8 g9 g10 v y m h e r = false≢true (h refl)
  none_file false false false false false false true g8 g9 g10 v y m h e r = no_refusal e
  none_file false false false false false false false g8 g9 g10 (refused number) y m h e r = no_refusal e
  none_file false false false false false false false g8 g9 g10 (refused_at number node) y m h e r = no_refusal_at e
  none_file false false false false false false false g8 g9 g10 (given tt) y m h e r = none_scan g8 g9 g10 y m e r

-- The file's 5 holds where the table's does.
five_by_table : (fs : List Field) → fails5 (node_table fs) (rule_list fs) ≡ true → fails5_by_file fs ≡ true
unfolding fails5_by_file
five_by_table fs e = rw e refl

module _ (file report : List ℕ) where
  abbrev fs : List Field
  fs = fields_of file

  abbrev nodes : List ℕ
  nodes = node_table fs

  abbrev rules : List ℕ
  rules = rule_list fs

  abbrev words : List ℕ
  words = words_of (scan_tokens file report)

  abbrev start : Start
  start = start_at (start_node fs) (start_mode fs)

  -- "the lowest number that any of the four parts gives"
  pub lowest_number : (n : ℕ) → Refuses (line_answer file report) n → Lowest file report n
  unfolding line_answer after_parts read_answer scan_answer file_answer check_answer table_answer run_answer fails16
  lowest_number n e =
      let least = by_file (fails11 words) (fails12 nodes words start) (length (places report)) (contents fs) (our_end By2017 nodes rules words start)
      (fails1 file) (fails2 fs) (fails3 nodes rules) (fails4 nodes rules) (fails5_by_file fs) (fails5 nodes rules)
      (fails6 fs (most_nodes * 4) most_rules) (fails8 report) (fails9 report) (fails10 report (most_tokens * 4))
      (verdict_from (is_well nodes rules) 0 (node_count nodes)) n (verdict_seven (is_well nodes rules) 0 (node_count nodes)) (five_by_table fs) e in
      record {
        one = ⊎_elim by_reader (⊎_elim by_check (⊎_elim by_scanner by_interpreter)) least.one_of;
        lowest = λ m g. lower least m g;
      }
    where
      lower :
          {n : ℕ}
          → Least (read_answer file (most_nodes * 4) most_rules) (check_answer nodes rules)
          (scan_answer file report (most_tokens * 4)) (run_answer By2017 nodes rules words start) n
          → (m : ℕ)
          → Gives file report m
          → n ≤ m
      lower l m (by_reader r) = l.over_read m r
      lower l m (by_check r) = l.over_check m r
      lower l m (by_scanner r) = l.over_scan m r
      lower l m (by_interpreter r) = l.over_run m r

  part_of :
      {m : ℕ}
      → Gives file report m
      → Refuses (read_answer file (most_nodes * 4) most_rules) m
      ⊎ (Refuses (check_answer nodes rules) m
      ⊎ (Refuses (scan_answer file report (most_tokens * 4)) m ⊎ Refuses (run_answer By2017 nodes rules words start) m))
  part_of (by_reader r) = inl r
  part_of (by_check r) = inr (inl r)
  part_of (by_scanner r) = inr (inr (inl r))
  part_of (by_interpreter r) = inr (inr (inr r))

  -- Where the line has no number, no part gives one.
  pub no_number : (y : Ended) → given y ≡ line_answer file report → (m : ℕ) → Gives file report m → ⊥
  unfolding line_answer after_parts read_answer scan_answer file_answer check_answer table_answer run_answer fails16
  no_number y e m g =
      none_file (fails11 words) (fails12 nodes words start) (length (places report)) (contents fs) (our_end By2017 nodes rules words start)
      (fails1 file) (fails2 fs) (fails3 nodes rules) (fails4 nodes rules) (fails5_by_file fs) (fails5 nodes rules)
      (fails6 fs (most_nodes * 4) most_rules) (fails8 report) (fails9 report) (fails10 report (most_tokens * 4))
      (verdict_from (is_well nodes rules) 0 (node_count nodes)) y m (five_by_table fs) e (part_of g)
