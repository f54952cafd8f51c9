pub mod Disks
pub mod Histories
pub mod Journals
pub mod MemoryDisks
pub mod Runs
pub mod Slots
pub mod Steps
pub mod devices
