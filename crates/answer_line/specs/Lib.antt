pub mod AnswerLine
pub mod EntryLine
pub mod FarthestLine
pub mod InternalPut
