pub mod Documents
pub mod Lines
pub mod NodeTexts
pub mod Pairs
pub mod Saying
pub mod UsedNames
