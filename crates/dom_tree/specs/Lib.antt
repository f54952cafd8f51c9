pub mod Items
pub mod Walks
pub mod Nested
pub mod NodeNumbers
pub mod Links
