mod Lists
mod Tables
mod AdditionSteps
mod DirectiveSteps
mod LocalSizes
mod Substituting
pub mod Depths
pub mod MakingSteps
pub mod Expanding
pub mod Listed
mod Outcomes
pub mod SizeLaws
pub mod ExtentLaws
pub mod ProgressSteps
pub mod ValueSizes
pub mod NodeSizes
pub mod Measured
pub mod Answering
