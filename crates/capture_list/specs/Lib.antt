pub mod Put
pub mod InternalList
