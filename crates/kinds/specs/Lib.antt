-- Lines by their kinds.
pub mod Kinds
pub mod Code
