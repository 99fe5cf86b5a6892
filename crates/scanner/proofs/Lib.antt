pub mod KeywordLaws
pub mod InsideLaws
pub mod StepLaws
