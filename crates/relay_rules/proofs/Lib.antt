mod Rows
pub mod RulePlaces
