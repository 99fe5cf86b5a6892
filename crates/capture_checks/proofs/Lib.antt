pub mod CaptureChecksCasesHold
pub mod CaptureLaws
