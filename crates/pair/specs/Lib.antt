-- The pair of runs: what an input is answered, and what is proved of it.
pub mod Pairs
pub mod CodeLines
pub mod Promises
