-- Devices of the proofs: programs by the numbers of their nodes, and what shapes stand for.
pub mod Numbers
pub mod Parts
pub mod Places
pub mod Decoding
pub mod Shapes
pub mod Calculations
pub mod Leaves
