pub mod SameRuns
pub mod SameGives
pub mod SameEnds
pub mod SameAnswers
pub mod SameListings
pub mod ClosedForms
pub mod HeldForms
pub mod AlikeCasesHold
