pub mod Memory
pub mod InternalRemembers
