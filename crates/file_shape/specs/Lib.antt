pub mod Contents
pub mod Shape
pub mod InternalShape
