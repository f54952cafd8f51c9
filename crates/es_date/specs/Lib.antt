pub mod DayNumbers
pub mod Dates
pub mod Moments
