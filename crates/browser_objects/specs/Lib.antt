pub mod Registers
pub mod Functions
pub mod ArrayCalls
pub mod Calls
pub mod Dates
pub mod OpenTables
