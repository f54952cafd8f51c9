-- Devices of the proofs.
pub mod Printing
