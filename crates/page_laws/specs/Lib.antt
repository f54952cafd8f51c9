pub mod Soundness
pub mod Turns
pub mod Times
pub mod Reached
pub mod Nodes
pub mod Moments
pub mod Counts
