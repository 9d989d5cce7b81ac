pub mod CacheFalls
pub mod CacheView
pub mod Caching
pub mod MadeView
pub mod Tables
pub mod Walk
