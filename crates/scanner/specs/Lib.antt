pub mod Tokens
pub mod Steps
pub mod InternalFind
