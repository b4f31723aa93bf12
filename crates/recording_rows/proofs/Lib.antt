-- The theory of recorded rows: `RowLaws`, rows with one operand or none, and the row where a record stands; `LoopRowLaws`, rows 34, 38 and 39.
pub mod RowLaws
pub mod LoopRowLaws
