-- Devices of the proofs, which nobody has to believe.
pub mod Tables
pub mod Marks
pub mod Chains
pub mod Keys
pub mod Kept
pub mod Indexing
pub mod Rows
pub mod Searching
pub mod Getting
