pub mod Alike
pub mod HasOrder
pub mod Kept
pub mod Ordered
pub mod Responses
pub mod Singles
pub mod Walk
