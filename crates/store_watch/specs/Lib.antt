pub use Rattle.store_read.specs as store_read
pub mod Codes
pub mod Lists
pub mod Numbers
pub mod Places
pub mod Reads
pub mod Rows
pub mod Watching
