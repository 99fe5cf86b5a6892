-- `grammar_writer::put_file` meets its contract: each section stands behind those before it.
use Rattle.std.proofs.Common.{◌∙◌, zero-add, arith}
use Rattle.grammar_writer.proofs.LendLaws.{byte_words, byte_mode, lends_started, keywords_right, names_right}
use Rattle.grammar_writer.proofs.FileLaws.{format_put, keywords_fit, keywords_put}
use Rattle.grammar_writer.proofs.FileLaws.{rules_fit, rules_put, nodes_fit, nodes_put, start_fits, start_put}
use Rattle.grammar_writer.proofs.SectionLaws.{two_bytes_are}
use Rattle.grammar_writer.proofs.put_file.Goals as goal

pub overflow_cast-start_mode : goal.overflow_cast-start_mode
overflow_cast-start_mode c = record { fits = byte_mode _ _ _ _ (lends_started c.requires.lends) }

pub put_keywords-rules_at-requires : goal.put_keywords-rules_at-requires
put_keywords-rules_at-requires c =
    let format = format_put c.requires.lends c.requires.rules_len c.args.out.now c.requires.in_bounds c.put_field-keywords_at.ensures.value c.put_field-keywords_at.ensures.out_after in
    record { count_value = keywords_right c.requires.lends; count_in_bounds = keywords_fit c.requires.lends c.requires.rules_len c.args.out.now c.requires.in_bounds format }

pub put_rules-nodes_at-requires : goal.put_rules-nodes_at-requires
put_rules-nodes_at-requires c =
    let format = format_put c.requires.lends c.requires.rules_len c.args.out.now c.requires.in_bounds c.put_field-keywords_at.ensures.value c.put_field-keywords_at.ensures.out_after in
    let keywords = keywords_put c.requires.lends c.requires.rules_len c.args.out.now c.requires.in_bounds format c.put_keywords-rules_at.ensures.value c.put_keywords-rules_at.ensures.out_after in
    record {
      rules_value = names_right c.requires.lends c.requires.rules_len;
      rules_in_bounds = rules_fit c.requires.lends c.requires.rules_len c.args.out.now c.requires.in_bounds keywords;
    }

pub put_nodes-start_at-requires : goal.put_nodes-start_at-requires
put_nodes-start_at-requires c =
    let format = format_put c.requires.lends c.requires.rules_len c.args.out.now c.requires.in_bounds c.put_field-keywords_at.ensures.value c.put_field-keywords_at.ensures.out_after in
    let keywords = keywords_put c.requires.lends c.requires.rules_len c.args.out.now c.requires.in_bounds format c.put_keywords-rules_at.ensures.value c.put_keywords-rules_at.ensures.out_after in
    let named = rules_put c.requires.lends c.requires.rules_len c.args.out.now c.requires.in_bounds keywords c.put_rules-nodes_at.ensures.value c.put_rules-nodes_at.ensures.out_after in
    record {
      byte_words = byte_words _ _ _ _ (lends_started c.requires.lends);
      nodes_in_bounds = nodes_fit c.requires.lends c.requires.rules_len c.args.out.now c.requires.in_bounds named;
    }

pub put_field-requires : goal.put_field-requires
put_field-requires c =
    let format = format_put c.requires.lends c.requires.rules_len c.args.out.now c.requires.in_bounds c.put_field-keywords_at.ensures.value c.put_field-keywords_at.ensures.out_after in
    let keywords = keywords_put c.requires.lends c.requires.rules_len c.args.out.now c.requires.in_bounds format c.put_keywords-rules_at.ensures.value c.put_keywords-rules_at.ensures.out_after in
    let named = rules_put c.requires.lends c.requires.rules_len c.args.out.now c.requires.in_bounds keywords c.put_rules-nodes_at.ensures.value c.put_rules-nodes_at.ensures.out_after in
    let all = nodes_put c.requires.lends c.requires.rules_len c.args.out.now c.requires.in_bounds named c.put_nodes-start_at.ensures.value c.put_nodes-start_at.ensures.out_after in
    record { tail_len_bound = omega arith; tail_in_bounds = omega (arith, start_fits c.requires.lends c.requires.rules_len c.args.out.now c.requires.in_bounds all) }

pub returns : goal.returns
returns c =
    let format = format_put c.requires.lends c.requires.rules_len c.args.out.now c.requires.in_bounds c.put_field-keywords_at.ensures.value c.put_field-keywords_at.ensures.out_after in
    let keywords = keywords_put c.requires.lends c.requires.rules_len c.args.out.now c.requires.in_bounds format c.put_keywords-rules_at.ensures.value c.put_keywords-rules_at.ensures.out_after in
    let named = rules_put c.requires.lends c.requires.rules_len c.args.out.now c.requires.in_bounds keywords c.put_rules-nodes_at.ensures.value c.put_rules-nodes_at.ensures.out_after in
    let all = nodes_put c.requires.lends c.requires.rules_len c.args.out.now c.requires.in_bounds named c.put_nodes-start_at.ensures.value c.put_nodes-start_at.ensures.out_after in
    let file = start_put c.requires.lends c.requires.rules_len c.args.out.now c.requires.in_bounds all (c.to_be_bytes-start.ensures ∙ two_bytes_are _ (omega arith)) c.put_field.ensures.value c.put_field.ensures.out_after in
    record { value = file.ends ∙ zero-add _; out_after = file.stands }
