-- The proofs of the demands: `RefusalLaws` and `StepLaws`, what demand 1 rests on, then a file for each statement.
pub mod RefusalLaws
pub mod StepLaws
pub mod Demand1Proof
pub mod Demand2Proof
pub mod ReasonsProof
pub mod NeighboursProof
pub mod IteratorsProof
pub mod ProceduresProof
pub mod FalseAlarmsProof
pub mod StoppingAndGoingOnProof
pub mod Demand3Proof
pub mod ExampleProof
