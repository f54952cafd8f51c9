pub mod Messages
pub mod Reading
pub mod Firings
pub mod ItemFirings
pub mod Kept
pub mod devices
