-- Devices of the proofs: what is drawn from a generator that stands anywhere.
pub mod Drawing
