pub mod Freedom
pub mod Stores
pub mod Services
