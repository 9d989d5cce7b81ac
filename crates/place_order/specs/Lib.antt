pub mod Laws
pub mod Rising
