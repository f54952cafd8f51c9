pub mod PageLemmas
pub mod LoadLemmas
pub mod SectionLemmas
pub mod OrderLemmas
