pub mod DayLemmas
pub mod DateSteps
pub mod OneDate
pub mod MomentLemmas
pub mod FoundDate
pub mod MomentLaws
