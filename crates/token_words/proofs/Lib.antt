pub mod PlaceLaws
pub mod LoopLaws
pub mod ScanLaws
pub mod HandedLaws
pub mod IndexLaws
