-- Devices of the proofs.
pub mod Layouts
pub mod Places
pub mod Shown
