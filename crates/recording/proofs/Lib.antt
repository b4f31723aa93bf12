-- The theory of recording: laws of pushes, of places, of records, of a node's numbers, of nodes, of what the code lends and of a loop's
-- numbers, by which the recording evaluators and the recorded rows are proved.
pub mod PushLaws
pub mod PlaceLaws
pub mod RecordLaws
pub mod NumberLaws
pub mod NodeLaws
pub mod InputLaws
pub mod LoopNumberLaws
