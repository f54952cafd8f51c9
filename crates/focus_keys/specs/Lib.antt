pub mod KeyTables
pub mod Targets
pub mod Defaults
pub mod Views
