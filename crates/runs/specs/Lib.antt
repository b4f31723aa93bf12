-- The runs: what a run is lent and hands back, what it says to the user, and what is proved of it.
pub mod Checks
pub mod Ends
pub mod CodeSteps
pub mod Answers
pub mod Promises
