pub mod Documents
pub mod StopLines
pub mod Runs
pub mod Handling
pub mod Beginnings
pub mod Notices
pub mod devices
