pub mod Measures
pub mod Breaking
pub mod ReadBack
pub mod RowLines
pub mod devices
