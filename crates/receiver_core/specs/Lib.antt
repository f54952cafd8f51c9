pub mod BroadcastCalls
pub mod Broadcasts
pub mod Fronts
pub mod Keeping
pub mod Outputs
pub mod Receiving
pub mod State
pub mod Turns
