pub use Rattle.relay_machine.proofs as relay_machine_laws
mod Beginnings
mod ChangeLaws
mod ChangeWork
mod HandleLaws
mod IdLaws
mod KeepingLaws
mod LayerLaws
mod LocalScopes
mod MarkedPairs
mod Meanings
mod NamedLaws
mod Names
mod NoticeLaws
mod OneLines
mod PlanLaws
mod QuietLaws
mod ReachLaws
mod ReleasedLaws
pub mod StandingLaws
mod StepLaws
mod SweepLaws
mod TakingLaws
mod TargetLaws
mod TellingLaws
mod WatchLaws
mod WorkLaws
