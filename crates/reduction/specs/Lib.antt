-- The check of the places and the reduction with its lent table.
pub mod Reduction
