-- The theory of the model, which the crates above cite.
-- what any list of places does to a number, and what is said of two
pub mod ClassLaws
pub mod PairLaws
-- a node without its bound, arrays laid, procedures and loops open
pub mod EvalLaws
pub mod Memory
pub mod Homes
pub mod Nested
pub mod LoopsClosed
-- the kinds of a machine, the reduction, and what the checks give
pub mod KindsIn
pub mod ReduceLaws
pub mod Typing
pub mod ReducedAccepted
-- the locals of procedures, what check 17 says of them, and what a row uses
pub mod Locals
pub mod Own
pub mod UsesLaws
-- the matching of two runs: what is alike, what links two states, nodes, rows, runs
pub mod Match
pub mod Linked
pub mod Keep
-- no run is stuck, a run keeps its state regular, and none of its states holds an empty class or a nonzero local of what is not at work
pub mod Safe
pub mod SafeStep
pub mod Kept
pub mod EmptyClassLaws
pub mod IdleLocalLaws
-- where a run is done
pub mod MainEndLaws
-- the matching of nodes, rows and runs
pub mod MatchEval
pub mod MatchStep
pub mod MatchRun
-- the choice writer and demand 3
pub mod WriterLaws
pub mod Demand3Proof
-- which reasons a node and a row can have, and where a reduced write fails
pub mod ReasonLaws
pub mod TruePlaceLaws
-- what a step leaves, and runs in parts
pub mod StepSizes
pub mod PartLaws
