pub mod DataEventLemmas
pub mod DigitLemmas
pub mod ItemLemmas
pub mod MatchLemmas
pub mod NodeLemmas
pub mod SubscriptionLemmas
