pub mod Laws
pub mod RememberedLaws
