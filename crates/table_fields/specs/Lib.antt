pub mod Borrowed
pub mod Descriptors
pub mod Sections
