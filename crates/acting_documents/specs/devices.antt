-- Devices of the proofs, which nobody has to believe.
pub mod Kept
pub mod Handlers
pub mod Doings
pub mod Posting
