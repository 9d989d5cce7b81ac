pub use Rattle.gql_order.proofs as gql_order_laws
pub use Rattle.plan_groups.proofs as plan_groups_laws
pub mod CacheSteps
pub mod GatherSteps
pub mod LoopSteps
pub mod MemberSteps
pub mod MetSteps
pub mod ReadSteps
pub mod ScopeSteps
pub mod SpreadSteps
pub mod TypeSteps
pub mod WalkSteps
