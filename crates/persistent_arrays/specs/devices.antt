-- Devices of the proofs.
pub mod Spelling
pub mod Packers
pub mod Unpackers
pub mod Structures
