pub mod OutputLaws
pub mod PostingLaws
pub mod BroadcastLaws
pub mod TickLaws
pub mod TimeLaws
pub mod ReceivingLaws
pub mod PassingLaws
mod WantedLaws
