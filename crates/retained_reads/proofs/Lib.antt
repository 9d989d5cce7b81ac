mod Accepted
mod Agreeing
mod Both
mod Covering
mod Depths
mod Marked
mod MaskedItems
mod Retaining
pub mod Sweeping
mod WholeItems
