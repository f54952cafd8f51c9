pub mod Locks
pub mod Standing
pub mod Histories
pub mod devices
