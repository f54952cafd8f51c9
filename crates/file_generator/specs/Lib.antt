pub mod Words
pub mod Modules
pub mod Menu
pub mod GeneratedFiles
pub mod devices
