pub mod CountLaws
pub mod ReadLaws
