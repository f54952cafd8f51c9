pub mod Bodies
pub mod Places
pub mod Show
pub mod Shown
pub mod devices
