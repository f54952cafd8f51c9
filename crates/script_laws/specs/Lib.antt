pub mod Passing
pub mod Soundness
pub mod Staying
pub mod Keeping
