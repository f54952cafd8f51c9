pub mod Lines
pub mod State
pub mod Loading
pub mod Dispatches
pub mod Inputs
pub mod devices
pub mod Remembering
pub mod Standing
