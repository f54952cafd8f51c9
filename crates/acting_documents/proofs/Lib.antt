pub mod BodyLemmas
pub mod DataEventLemmas
pub mod DoingLemmas
pub mod EndedLemmas
mod HandlerLaws
