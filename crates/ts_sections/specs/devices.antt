-- Devices of the proofs: what an assembler keeps, and what taking in bytes says of the sections ahead.
pub mod Ahead
pub mod Piece
pub mod Remainder
