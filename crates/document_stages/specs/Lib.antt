pub mod EventLines
pub mod Acting
pub mod Displays
pub mod Stages
pub mod Hosting
pub mod Calling
