pub mod ArrayLemmas
pub mod CommaLemmas
pub mod FunctionLemmas
pub mod LongTextLemmas
pub mod NumberLemmas
pub mod OutcomeLemmas
pub mod RegisterLemmas
pub mod TimerLemmas
