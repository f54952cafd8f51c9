pub mod Caching
pub mod CacheViews
pub mod devices
