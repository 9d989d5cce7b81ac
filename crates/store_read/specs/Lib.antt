pub use Rattle.plan_groups.specs as plan_groups
pub use Rattle.store_source.specs as store_source
pub mod CacheFalls
pub mod CacheView
pub mod Caching
pub mod FieldView
pub mod Footprints
pub mod Gathering
pub mod Meeting
pub mod Members
pub mod Reading
pub mod Spreads
pub mod Walked
