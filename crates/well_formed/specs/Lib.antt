pub mod Facts
pub mod WellFormed
pub mod Rounds
pub mod Check
pub mod InternalPasses
pub mod InternalRank
