-- Devices of the proofs.
pub mod Fields
