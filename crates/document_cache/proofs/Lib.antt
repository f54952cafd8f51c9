pub mod CacheLemmas
pub mod EntryLemmas
