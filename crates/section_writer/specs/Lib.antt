pub mod Sections
pub mod Packets
pub mod Received
pub mod devices
