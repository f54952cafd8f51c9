pub mod Fields
pub mod EntryLoop
pub mod KindTest
pub mod Modules
pub mod Payloads
pub mod Headers
pub mod Sections
pub mod Readers
