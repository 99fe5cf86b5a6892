pub mod Line
pub mod Entries
pub mod Lowest
pub mod InternalParts
