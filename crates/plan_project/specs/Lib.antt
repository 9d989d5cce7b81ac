pub use Rattle.plan_read.specs.doc_merge
pub use Rattle.text_places.specs.gql_parse
pub use Rattle.text_places.specs.gql_sdl
pub use Rattle.plan_order.specs as plan_order
pub use Rattle.plan_read.specs as plan_read
pub use Rattle.relay_dirs.specs.relay_rules
pub mod Faults
pub mod Expansions
pub mod Projects
pub mod Noting
pub mod Verdicts
pub mod Lookups
pub mod Filling
pub mod Planning
pub mod TextLaws
