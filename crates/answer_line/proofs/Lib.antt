pub mod PutLaws
pub mod EntryLaws
pub mod EntryCases
pub mod FarthestLaws
