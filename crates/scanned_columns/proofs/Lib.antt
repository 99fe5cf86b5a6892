pub mod AsciiScans
pub mod AsciiLaws
pub mod NeverFarther
pub mod Letters
pub mod LetterColumns
