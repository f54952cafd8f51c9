pub mod Bytes
pub mod References
pub mod Markup
pub mod Grammar
pub mod Faults
pub mod Readings
pub mod devices
