-- The choice writer: what it is lent and hands back, its checks, what it says to the user, and demand 3.
pub mod Ends
pub mod CodeSteps
pub mod Checks
pub mod Answers
pub mod Demand3
