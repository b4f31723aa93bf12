-- The three demands, each under the user's own sentence, what later requests asked to be shown, and the examples: what a reader of the proofs
-- opens first. Each statement is of the definitions that the public promises are equations with; proofs/ has the proof of each.
pub mod Refusals
pub mod Demand1
pub mod Demand2
pub mod Reasons
pub mod Neighbours
pub mod Iterators
pub mod Procedures
pub mod FalseAlarms
pub mod StoppingAndGoingOn
pub mod Demand3
pub mod Examples
