pub mod ClassLaws
pub mod FindLaws
