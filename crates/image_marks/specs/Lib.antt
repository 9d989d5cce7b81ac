pub use Rattle.store_record.specs as store_record
pub mod Flat
pub mod MarkTokens
pub mod Stack
pub mod Values
