-- Devices of the proofs: no definition that a program of this project is believed by stands here.
pub mod Lookups
pub mod Owners
