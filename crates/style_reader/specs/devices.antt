-- Devices of the proofs, which nobody has to believe.
pub mod Views
pub mod Runs
