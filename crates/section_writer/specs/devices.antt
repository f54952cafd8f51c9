-- Devices of the proofs: what the writing calls append, and the laws of the crates below.
pub mod Appending
pub mod LawsBelow
