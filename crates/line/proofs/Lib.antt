pub mod PartLaws
pub mod RunLaws
pub mod LowestNumber
