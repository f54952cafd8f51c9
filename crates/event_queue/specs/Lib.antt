pub mod ItemKinds
pub mod Events
pub mod Queues
pub mod Timers
pub mod devices
