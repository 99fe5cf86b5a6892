pub mod Copied
pub mod Filled
