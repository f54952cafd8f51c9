pub mod Channels
pub mod Demultiplexing
pub mod Since
pub mod Laws
