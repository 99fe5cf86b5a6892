pub mod OrderLaws
pub mod ShapeLaws
pub mod PartLaws
