pub mod Message
pub mod Dii
pub mod Ddb
pub mod Reading
