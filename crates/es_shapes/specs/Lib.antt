pub mod Syntax
pub mod Sources
pub mod Meanings
pub mod Codes
pub mod Functions
pub mod Operators
pub mod devices
