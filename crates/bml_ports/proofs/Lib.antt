pub mod Chains
pub mod Filling
pub mod Finding
pub mod Reading
