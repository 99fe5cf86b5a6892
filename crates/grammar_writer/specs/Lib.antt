pub mod FieldBytes
pub mod Written
pub mod InternalWriting
