-- The shown texts, and the calls that are refused, by computation.
use mathlib.Core.Path.{◌≡◌, refl}
use mathlib.Core.List.{List, map, ◌++◌}
use Rattle.table.specs.Words.{each_words}
use Rattle.table.specs.Every.{every}
use Rattle.table.specs.Checks.{fails3, fails4, fails5, right_words}
use Rattle.byte_class.specs.Bytes.{is_single, is_continuation, class_of}
use Rattle.file_fields.specs.Fields.{first_field, fields_up_to, fields, later_tags, in_order, tagged, right_length}
use Rattle.spellings.specs.Spellings.{spelled, single_alone, same_bytes, distinct, right_spellings}
use Rattle.grammar_file.specs.File.{right_value, right_values, keywords, rule_list, rule_names, node_table, start_value, unreadable}
use Rattle.grammar_file.specs.File.{fails1, fails2, fails5_by_file, contents, file_answer, name_bytes}
use Rattle.report_checks.specs.Report.{fails8}
use Rattle.report_checks.specs.FirstChecks.{first_answer}
use Rattle.clauses.specs.Limits.{fails11}
use Rattle.capture_checks.specs.Fourteen.{offsets_fall, fails14}
use Rattle.shown_text.specs.Shown.{widths, name_offset, part_shown, shown_answer, shown_bytes}
use Rattle.shown_text.specs.Cases.{ShownCase, expected, told, report_cases, name_cases, refused_cases}

abbrev cases : List ShownCase
cases = report_cases ++ name_cases ++ refused_cases

pub cases_hold : map told cases ≡ map expected cases
unfolding told report_cases name_cases refused_cases each_words every fails3 fails4 fails5 right_words is_single is_continuation class_of
    first_field fields_up_to fields later_tags in_order tagged right_length spelled single_alone same_bytes distinct right_spellings right_value
    right_values keywords rule_list rule_names node_table start_value unreadable fails1 fails2 fails5_by_file contents file_answer
    name_bytes fails8 first_answer fails11 offsets_fall fails14 widths name_offset part_shown shown_answer shown_bytes
cases_hold = refl
