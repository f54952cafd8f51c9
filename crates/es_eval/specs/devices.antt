-- Devices of the proofs: what the machine stands for, item by item.
pub mod Bounds
pub mod OpenCalls
pub mod Slots
pub mod Declaring
pub mod Works
pub mod Machines
pub mod Leading
pub mod Finding
pub mod Held
