-- `line::prepare` meets its contract.
use Rattle.std.proofs.Common.{ℕ, ◌∙◌, arith}
use Rattle.std.proofs.lemmas.Result.{err_from_is_err_and}
use Rattle.table.proofs.AnswerLaws.{turned_keeps}
use Rattle.line.proofs.PartLaws.{tables, check_refuses, scan_refuses, all_stand, read_refuses, unwritten, written, front_length}
use Rattle.line.proofs.prepare.Goals as goal

pub overflow_mul-read : goal.overflow_mul-read
overflow_mul-read c =
    let stand =
    tables c.args.file.now c.args.nodes.now c.args.rules.now c.requires.0 c.requires.1
    c.in_ok-read.ensures.result_value c.in_ok-read.ensures.nodes_after c.in_ok-read.ensures.rules_after in
    omega (arith, stand.few)

pub slice_bounds-check-end : goal.slice_bounds-check-end
slice_bounds-check-end c =
    let stand =
    tables c.args.file.now c.args.nodes.now c.args.rules.now c.requires.0 c.requires.1
    c.in_ok-read.ensures.result_value c.in_ok-read.ensures.nodes_after c.in_ok-read.ensures.rules_after in
    stand.few_nodes

pub slice_bounds-check-end-2 : goal.slice_bounds-check-end-2
slice_bounds-check-end-2 c =
    let stand =
    tables c.args.file.now c.args.nodes.now c.args.rules.now c.requires.0 c.requires.1
    c.in_ok-read.ensures.result_value c.in_ok-read.ensures.nodes_after c.in_ok-read.ensures.rules_after in
    front_length _ _ stand.few_nodes

pub slice_bounds-check-end-3 : goal.slice_bounds-check-end-3
slice_bounds-check-end-3 c =
    let stand =
    tables c.args.file.now c.args.nodes.now c.args.rules.now c.requires.0 c.requires.1
    c.in_ok-read.ensures.result_value c.in_ok-read.ensures.nodes_after c.in_ok-read.ensures.rules_after in
    stand.few_rules

pub slice_bounds-check-end-4 : goal.slice_bounds-check-end-4
slice_bounds-check-end-4 c =
    let stand =
    tables c.args.file.now c.args.nodes.now c.args.rules.now c.requires.0 c.requires.1
    c.in_ok-read.ensures.result_value c.in_ok-read.ensures.nodes_after c.in_ok-read.ensures.rules_after in
    front_length _ _ stand.few_rules

pub returns-in_err-read : goal.returns-in_err-read
returns-in_err-read c =
    let p = err_from_is_err_and c.from_residual.result c.from_residual.ensures.1 in
    let refuses = read_refuses c.args.file.now c.args.report.now _ _ c.requires.0 c.requires.1 c.in_err-read.ensures.result_value in
    rw (p.1, p.2) (record { said = refuses; written = unwritten _ _ _ _ refuses })

pub returns-in_err-check : goal.returns-in_err-check
returns-in_err-check c =
    let p = err_from_is_err_and c.from_residual-in_err-check.result c.from_residual-in_err-check.ensures.1 in
    let stand =
    tables c.args.file.now c.args.nodes.now c.args.rules.now c.requires.0 c.requires.1
    c.in_ok-read.ensures.result_value c.in_ok-read.ensures.nodes_after c.in_ok-read.ensures.rules_after in
    let refuses = check_refuses stand _ _ _ c.in_err-check.ensures.result_value in
    rw (p.1, p.2) (record { said = refuses; written = unwritten _ _ _ _ refuses })

pub returns-in_err-count : goal.returns-in_err-count
returns-in_err-count c =
    let p = err_from_is_err_and c.from_residual-in_err-count.result c.from_residual-in_err-count.ensures.1 in
    let stand =
    tables c.args.file.now c.args.nodes.now c.args.rules.now c.requires.0 c.requires.1
    c.in_ok-read.ensures.result_value c.in_ok-read.ensures.nodes_after c.in_ok-read.ensures.rules_after in
    let refuses = scan_refuses stand _ _ c.in_ok-check.ensures.result_value _ c.in_err-count.ensures.result_value in
    rw (p.1, p.2) (record { said = refuses; written = c.in_err-count.ensures.tokens_after ∙ turned_keeps ℕ _ _ _ ∙ unwritten _ _ _ _ refuses })

pub returns : goal.returns
returns c =
    let stand =
    tables c.args.file.now c.args.nodes.now c.args.rules.now c.requires.0 c.requires.1
    c.in_ok-read.ensures.result_value c.in_ok-read.ensures.nodes_after c.in_ok-read.ensures.rules_after in
    let after = c.in_ok-count.ensures.tokens_after in
    let all = all_stand stand _ _ c.in_ok-check.ensures.result_value c.args.tokens.now c.in_ok-count.ensures.result_value after in
    record { said = all; written = written _ _ _ all.passes after }
