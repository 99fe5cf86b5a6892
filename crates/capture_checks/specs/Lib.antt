pub mod Fourteen
pub mod CaptureChecksCases
