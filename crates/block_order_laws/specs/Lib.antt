pub mod Loads
pub mod FirstLoads
