-- `grammar_file::check` meets its contract.
use Rattle.std.proofs.Common.{◌≡◌, ap, ◌∙◌}
use Rattle.file_shape.proofs.PartLaws.{keyword_count}
use Rattle.grammar_file.specs.File.{Contents, contents}
use Rattle.grammar_file.proofs.CountLaws.{keywords_stand}
use Rattle.grammar_file.proofs.check.Goals as goal

pub returns-clause-keywords_stand : goal.returns-clause-keywords_stand
unfolding contents
returns-clause-keywords_stand c =
    let count : c.contents.result.keywords ≡ c.in_ok-shape.shape.keywords =
    ap (λ (x : Contents). x.keywords) c.contents.ensures ∙ keyword_count _ _ c.in_ok-shape.ensures.0 in
    rw count (keywords_stand _ _ c.in_ok-shape.ensures.0)
