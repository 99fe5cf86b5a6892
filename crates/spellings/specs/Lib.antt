pub mod Spellings
pub mod Keys
