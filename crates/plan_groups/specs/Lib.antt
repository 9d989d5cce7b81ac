pub mod FieldView
pub mod GroupView
pub mod Putting
pub mod Placed
pub mod Codes
pub mod Made
