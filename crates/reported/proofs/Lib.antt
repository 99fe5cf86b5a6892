pub mod ListLaws
pub mod ReportLaws
