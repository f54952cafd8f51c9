-- Devices of the proofs.
pub mod KeyLaws
