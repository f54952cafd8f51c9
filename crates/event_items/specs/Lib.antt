pub mod EventItems
pub mod Subscriptions
