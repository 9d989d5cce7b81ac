pub use Rattle.plan_order.specs as plan_order
pub use Rattle.store_read.specs as store_read
pub mod Showing
pub mod Spans
pub mod Stood
