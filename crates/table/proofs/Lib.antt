-- The theory of the table checks, which the crates above cite, and the laws by which their code is proved.
pub mod Sizes
pub mod Passing
pub mod ReducedPasses
pub mod PromiseProofs
pub mod IteratorProofs
pub mod CheckLaws
