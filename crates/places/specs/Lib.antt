pub mod Columns
pub mod Places
pub mod Moves
pub mod InternalFind
