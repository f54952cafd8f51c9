pub mod Messages
pub mod Streams
pub mod GoodFiles
pub mod Received
pub mod Entities
pub mod GoodParts
pub mod devices
