pub mod WalkAnswer
pub mod InternalWalk
pub mod InternalRemembering
pub mod InternalRun
