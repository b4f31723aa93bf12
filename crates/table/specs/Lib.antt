-- The table checks: what each refuses, with number and place, and what passing them promises.
pub mod Verdict
pub mod Checks
pub mod Code
pub mod Promises
pub mod Iterators
