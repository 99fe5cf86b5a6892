pub mod ListLaws
pub mod ClearLaws
pub mod QuietLaws
