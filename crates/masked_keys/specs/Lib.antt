pub mod Laws
pub mod TextKeys
