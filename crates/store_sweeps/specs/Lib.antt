pub mod Swept
pub mod Meets
