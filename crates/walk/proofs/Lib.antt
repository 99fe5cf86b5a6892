pub mod LeafLaws
pub mod HighLaws
pub mod WalkLaws
pub mod RunLaws
