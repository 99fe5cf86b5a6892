pub mod SpellingLaws
pub mod KeyLaws
pub mod KeysApart
