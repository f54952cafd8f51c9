pub mod Crc
pub mod Intact
pub mod Sections
pub mod Assembly
pub mod Sending
pub mod devices
