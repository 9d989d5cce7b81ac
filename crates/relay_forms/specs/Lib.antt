pub use Rattle.plan_project.specs as plan_project
pub use Rattle.relay_io.specs as relay_io
pub use Rattle.relay_machine.specs as relay_machine
pub mod Words
pub mod Statuses
pub mod FormShown
pub mod BulkShown
pub mod Projects
pub mod Rules
pub mod Files
pub mod Reads
pub mod Scripts
pub mod Artifacts
pub mod Progress
pub mod Puts
