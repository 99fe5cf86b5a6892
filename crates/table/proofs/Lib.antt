pub mod Every
pub mod Inside
pub mod Orders
pub mod Words
pub mod Cells
pub mod AnswerLaws
