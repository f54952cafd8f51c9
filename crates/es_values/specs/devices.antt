-- Devices of the proofs, which nobody has to believe.
pub mod Indices
pub mod Runs
pub mod Turning
