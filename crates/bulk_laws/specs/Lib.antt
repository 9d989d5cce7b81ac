pub mod BulkProject
pub mod Laws
