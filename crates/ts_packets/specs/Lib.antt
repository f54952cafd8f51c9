pub mod Packet
pub mod Packets
pub mod Cutter
pub mod Cuts
