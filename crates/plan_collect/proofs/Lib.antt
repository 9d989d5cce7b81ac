pub mod AddedFields
pub mod Evaluating
pub mod WholeForm
pub mod Collects
