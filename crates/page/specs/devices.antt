-- Devices of the proofs, which nobody has to believe.
pub mod Gifts
pub mod Acts
pub mod PendingStates
pub mod Pendings
pub mod Memories
