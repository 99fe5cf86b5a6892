pub mod PutLaws
pub mod SectionLaws
pub mod LendLaws
pub mod FileLaws
pub mod AnswerLaws
