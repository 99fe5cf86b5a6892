pub mod CasesHold
pub mod FieldPlaces
pub mod TagLaws
pub mod NamePlaces
pub mod ShownLaws
pub mod PartLaws
