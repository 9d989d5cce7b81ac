pub use Rattle.plan_project.specs as plan_project
pub use Rattle.relay_machine.specs as relay_machine
pub use Rattle.store_layers.specs as store_layers
pub use Rattle.store_layers.specs.store_sweeps
pub mod Answered
pub mod Handles
pub mod Kept
pub mod KeptCode
pub mod Marked
pub mod Named
pub mod Notices
pub mod Operations
pub mod Parts
pub mod Retained
pub mod Spares
pub mod Stands
pub mod Steps
pub mod Sweeping
pub mod Targets
pub mod Work
