-- The theory of the runs: laws of a run, one step at a time; of what the checks give, and of what a run says.
pub mod RunLaws
pub mod GoingLaws
pub mod ReadyLaws
pub mod CallingLaws
pub mod LendLaws
pub mod SaidLaws
pub mod RunPromises
