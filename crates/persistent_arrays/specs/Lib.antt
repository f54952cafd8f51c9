pub mod Arrays
pub mod Structures
pub mod Names
pub mod Fields
pub mod Packing
pub mod Reading
pub mod Kept
pub mod devices
