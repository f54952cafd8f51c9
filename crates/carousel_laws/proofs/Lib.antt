pub mod SectionLemmas
pub mod CompletingLemmas
pub mod StoreLemmas
pub mod RepeatLemmas
pub mod StepLemmas
pub mod LockLemmas
