-- Devices of the proofs, which nobody has to believe.
pub mod MemoryMarks
pub mod Stores
