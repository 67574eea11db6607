pub mod Entries
pub mod Reaches
pub mod EntryLaws
