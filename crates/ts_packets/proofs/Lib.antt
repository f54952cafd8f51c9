pub mod PacketList
pub mod Following
pub mod PacketFields
pub mod Standing
