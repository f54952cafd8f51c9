-- Devices of the proofs: the laws on which they stand, what the writing calls append, and what they ask of files.
pub mod LawsBelow
pub mod Appending
pub mod Laying
