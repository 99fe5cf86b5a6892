pub mod Lists
pub mod FieldLaws
pub mod Offsets
