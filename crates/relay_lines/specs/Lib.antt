pub mod Members
pub mod RefusalShown
