-- The line of an entry by what is shown for its capture, and that it has room.
use Prim.Native.Nat.{ℕ, ◌+◌, ◌-◌, ◌*◌, ◌/◌, ◌%◌, ◌≤◌, ◌<◌}
use mathlib.Core.Path.{◌≡◌, refl, sym, ap, ◌∙◌}
use mathlib.Core.Bool.{Bool, true, false, cond, not, ◌&&◌, ◌||◌}
use mathlib.Core.List.{List, []}
use mathlib.Core.Logic.{⊎_elim}
use lib.ListN.{length, drop, take, get_or, length-take, length-drop, get_or-eq_default}
use lib.Dec.{eqb, leb, ltb}
use borrow.Author.Tests.{ltb-true, ltb-false, leb-true, not-false}
use native.Mathlib.Omega.{arith}
use Rattle.std.specs.List.{position_or_len}
use Rattle.table.specs.Answer.{Answer, given, refused, refused_at, refuse_if}
use Rattle.table.specs.Every.{every}
use Rattle.table.proofs.AnswerLaws.{second_given}
use Rattle.table.proofs.Every.{and_left, and_right, both_false, every_at}
use Rattle.table.proofs.Orders.{le_or_lt}
use Rattle.spellings.specs.Spellings.{spelled, single_alone, right_spellings, distinct, visible}
use Rattle.grammar_file.specs.File.{Contents, fields_of, rule_list, rule_names, keywords, fails1, fails2, file_answer, part_of, name_bytes}
use Rattle.report_checks.specs.Report.{fails8}
use Rattle.report_checks.specs.FirstChecks.{first_answer}
use Rattle.columns.specs.declared.Capture.{Capture}
use Rattle.clauses.specs.Limits.{fails11}
use Rattle.shown_text.specs.declared.ShownPart.{ShownPart}
use Rattle.shown_text.specs.declared.ShownPart.TheVariants.{InReport, InFile}
use Rattle.shown_text.specs.Shown.{Part, in_report, in_file, token_offset, reads_tokens, fails14, part_shown, shown_answer, shown_bytes}
use Rattle.shown_text.specs.Shown.{lies_at, unless_refused}
use Rattle.table.specs.Refusals.{turned_down}
use Rattle.table.specs.declared.refusals.Refusal.{Refusal}
use Rattle.capture_checks.proofs.CaptureLaws.{right_capture}
use Rattle.shown_text.proofs.ShownLaws.{first_given}
use Rattle.shown_text.proofs.PartLaws.{report_inside, report_cut}
use Rattle.answer_line.specs.EntryLine.{breaks, first_line, line_of, column_of, read_bytes, unread_bytes, entry_bytes, entry_count, entry_after}
use Rattle.answer_line.specs.InternalPut.{Puts}
use Rattle.answer_line.proofs.PutLaws.{put_none, put_same, written_whole}

-- A name has at most 32 bytes.
by_tests :
    (a b : Bool) (rest : Answer Contents) (name : List ℕ)
    → (b ≡ false → length name ≤ 32)
    → length (part_of (refuse_if a 1 (refuse_if b 2 rest)) name) ≤ 32
by_tests true b rest name h = omega arith
by_tests false true rest name h = omega arith
by_tests false false (given x) name h = h refl
by_tests false false (refused n) name h = omega arith
by_tests false false (refused_at n node) name h = omega arith

short_spelling : (s : List ℕ) → spelled s ≡ true → length s ≤ 32
unfolding spelled
short_spelling s e =
    leb-true (length s) 32
    (and_right (leb 1 (length s)) (leb (length s) 32)
    (and_left (leb 1 (length s) && leb (length s) 32) (every (length s) (λ i. visible (get_or s i 0))) e))

spelled_short : (names : List (List ℕ)) (r : ℕ) → right_spellings names ≡ true → length (get_or names r []) ≤ 32
unfolding right_spellings
spelled_short names r e =
    ⊎_elim
    (λ (h : length names ≤ r). rw (get_or-eq_default names [] {n = r} h) (omega arith))
    (λ (h : r < length names).
    let all = and_left (every (length names) (λ i. spelled (get_or names i []))) (distinct names) e in
    short_spelling (get_or names r []) (every_at (length names) (λ i. spelled (get_or names i [])) all r h))
    (le_or_lt (length names) r)

pub name_short : (file : List ℕ) (r : ℕ) → length (name_bytes file r) ≤ 32
unfolding name_bytes file_answer fails2
name_short file r =
    let fs = fields_of file in
    by_tests (fails1 file) (fails2 fs) _ (get_or (rule_names fs) r [])
    (λ e.
    let all = right_spellings (keywords fs) && every (length (keywords fs)) (λ k. single_alone (get_or (keywords fs) k [])) in
    spelled_short (rule_names fs) r (and_right all (right_spellings (rule_names fs)) (not-false (all && right_spellings (rule_names fs)) e)))

-- The first line of a text is no longer than it.
pub first_shorter : (l : List ℕ) → length (first_line l) ≤ length l
first_shorter l = omega (arith, length-take (position_or_len (λ b. eqb b 10) l) l)

passes : {A : Type 0} (b : Bool) (n : ℕ) (next : Answer A) (x : A) → given x ≡ refuse_if b n next → (b ≡ false) × (given x ≡ next)
passes true n next x e = absurd (let z : ◌≡◌ {A = ℕ} 0 1 = cc in omega arith)
passes false n next x e = (refl, e)

part_of_report : (b : Bool) (o n o' n' o'' n'' : ℕ) → in_report o n ≡ cond b (in_report o' n') (in_file o'' n'') → (b ≡ true) × (o ≡ o')
part_of_report true o n o' n' o'' n'' e = (refl, cc)
part_of_report false o n o' n' o'' n'' e = absurd (let z : ◌≡◌ {A = ℕ} 0 1 = cc in omega arith)

part_of_file : (b : Bool) (o n o' n' o'' n'' : ℕ) → in_file o n ≡ cond b (in_report o' n') (in_file o'' n'') → b ≡ false
part_of_file true o n o' n' o'' n'' e = absurd (let z : ◌≡◌ {A = ℕ} 0 1 = cc in omega arith)
part_of_file false o n o' n' o'' n'' e = refl

-- What 8 and 11 leave: a report of 65,535 bytes at most, and a column of 65,535 at most for a token that is there.
pub report_most : (report : List ℕ) → fails8 report ≡ false → length report ≤ 65535
unfolding fails8
report_most report e = ltb-false 65535 (length report) (both_false _ _ e).0

pub column_most : (words : List ℕ) → fails11 words ≡ false → (w : ℕ) → w < length words / 4 → get_or words (w * 4 + 1) 0 ≤ 65535
unfolding fails11
column_most words e w l =
    let all =
    not-false (every (length words / 4) (λ v. leb (get_or words (v * 4) 0) 255 && leb (get_or words (v * 4 + 1) 0) 65535))
    (both_false (not (eqb (length words % 4) 0) || ltb 4096 (length words / 4)) _ e).1 in
    leb-true (get_or words (w * 4 + 1) 0) 65535
    (and_right (leb (get_or words (w * 4) 0) 255) (leb (get_or words (w * 4 + 1) 0) 65535)
    (every_at (length words / 4) (λ v. leb (get_or words (v * 4) 0) 255 && leb (get_or words (v * 4 + 1) 0) 65535) all w l))

-- Where a part is shown.
module _ (file report words : List ℕ) (c : Capture) {p : Part} (e : given p ≡ shown_answer file report words c) where
  report_short : length report ≤ 65535
  unfolding shown_answer first_answer
  report_short =
      let first = first_given (first_answer file report) _ p e in
      let eight = passes (fails8 report) 8 (given tt) first.0 (second_given (file_answer file) _ first.0 first.1) in
      report_most report eight.0

  tests : (fails11 words ≡ false) × (fails14 (length (rule_list (fields_of file))) (length report) words c ≡ false) × (p ≡ part_shown (fields_of file) words c)
  unfolding shown_answer
  tests =
      let eleven = passes (fails11 words) 11 _ p (second_given (first_answer file report) _ p e) in
      let fourteen = passes (fails14 (length (rule_list (fields_of file))) (length report) words c) 14 _ p eleven.1 in
      (eleven.0, fourteen.0, cc fourteen.1)

  column_small : c.first < c.after → get_or words (c.first * 4 + 1) 0 ≤ 65535
  column_small h =
      let right = right_capture (length (rule_list (fields_of file))) (length report) words c tests.1 in
      column_most words tests.0 c.first (omega (arith, right.reached))

  bytes_are : cond (reads_tokens c)
      (read_bytes (name_bytes file c.rule) (line_of report words c.first) (column_of words c.first) (first_line (shown_bytes file report words c)))
      (unread_bytes (name_bytes file c.rule))
      ≡ entry_bytes file report words c
  unfolding entry_bytes
  bytes_are = rw (← e) refl

-- No line where the shown text is refused.
pub refuses : (file report words : List ℕ) (c : Capture) (e : Refusal) → turned_down e ≡ shown_answer file report words c → [] ≡ entry_bytes file report words c
unfolding entry_bytes
refuses file report words c e d = rw (← d) (none e _)
  where
    none : (e : Refusal) (bytes : List ℕ) → [] ≡ unless_refused (turned_down e) bytes
    none e bytes = grind arith

-- The line in each case of `ShownPart`.
module _ (file report words : List ℕ) (c : Capture) {r : ShownPart} (e : given (lies_at r) ≡ shown_answer file report words c) where
  pub from_file : {o n : ℕ} → r ≡ InFile o n → unread_bytes (name_bytes file c.rule) ≡ entry_bytes file report words c
  unfolding part_shown
  from_file {o} {n} told =
      let d : given (in_file o n) ≡ shown_answer file report words c = ap (λ (p : ShownPart). given (lies_at p)) (sym told) ∙ e in
      let b = part_of_file (reads_tokens c) o n _ _ _ _ (tests file report words c d).2 in
      ap (λ (x : Bool). cond x
      (read_bytes (name_bytes file c.rule) (line_of report words c.first) (column_of words c.first) (first_line (shown_bytes file report words c)))
      (unread_bytes (name_bytes file c.rule))) (sym b)
      ∙ bytes_are file report words c d

  module _ {o n : ℕ} (told : r ≡ InReport o n) where
    shows : given (in_report o n) ≡ shown_answer file report words c
    shows = ap (λ (p : ShownPart). given (lies_at p)) (sym told) ∙ e

    reads : (reads_tokens c ≡ true) × (o ≡ token_offset words c.first)
    unfolding part_shown
    reads = part_of_report (reads_tokens c) o n _ _ _ _ (tests file report words c shows).2

    pub short : length report ≤ 65535
    short = report_short file report words c shows

    pub inside : o + n ≤ length report
    inside = report_inside file report words c e told

    pub column_fits : get_or words (c.first * 4 + 1) 0 ≤ 65535
    column_fits = column_small file report words c shows (ltb-true c.first c.after reads.0)

    pub text_short : {text : List ℕ} → text ≡ first_line (take (o + n - o) (drop o report)) → length text ≤ 65535
    text_short d =
        omega (
          arith,
          ap length d,
          first_shorter (take (o + n - o) (drop o report)),
          length-take (o + n - o) (drop o report),
          length-drop o report,
          short,
        )

    pub from_report :
        {name text : List ℕ} {line column : ℕ}
        → name ≡ name_bytes file c.rule
        → text ≡ first_line (take (o + n - o) (drop o report))
        → line ≡ 1 + breaks (take o report)
        → column ≡ get_or words (c.first * 4 + 1) 0
        → read_bytes name line (column + 1) text ≡ entry_bytes file report words c
    from_report a b d f =
        let text_is : _ ≡ first_line (shown_bytes file report words c) = b ∙ ap first_line (report_cut file report words c e told) in
        let line_is : _ ≡ line_of report words c.first = d ∙ ap (λ (k : ℕ). 1 + breaks (take k report)) reads.1 in
        rw (a, text_is, line_is, f)
        (ap (λ (x : Bool). cond x
        (read_bytes (name_bytes file c.rule) (line_of report words c.first) (column_of words c.first) (first_line (shown_bytes file report words c)))
        (unread_bytes (name_bytes file c.rule))) (sym reads.0)
        ∙ bytes_are file report words c shows)

-- A lent slice with enough room.
module _ (file report words : List ℕ) (c : Capture) (o : List ℕ) where
  pub entry_whole :
      {bytes : List ℕ} {r : ℕ} {o' : List ℕ}
      → 65664 ≤ length o
      → bytes ≡ entry_bytes file report words c
      → Puts o 0 bytes r o'
      → (r ≡ entry_count file report words c (length o)) × (o' ≡ entry_after file report words c o)
  unfolding entry_count entry_after
  entry_whole h e p = written_whole 65664 o h (put_same e p)

  pub entry_refused :
      65664 ≤ length o
      → [] ≡ entry_bytes file report words c
      → (0 ≡ entry_count file report words c (length o)) × (o ≡ entry_after file report words c o)
  entry_refused h e = entry_whole h e (put_none o 0 (omega arith))
