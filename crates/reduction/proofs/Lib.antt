-- The laws by which the reduction is proved.
pub mod ReductionLaws
