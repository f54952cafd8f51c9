pub mod FieldLemmas
pub mod MessageLemmas
pub mod FiringLemmas
pub mod ItemFiringLemmas
pub mod ItemFiringLaws
pub mod KeptLemmas
pub mod KeptFiringLaws
