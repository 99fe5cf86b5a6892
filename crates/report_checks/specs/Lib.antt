pub mod Report
pub mod FirstChecks
