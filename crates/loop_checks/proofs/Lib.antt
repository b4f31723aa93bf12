-- The theory of the checks of loops: `LoopLaws`, the nesting; `IteratorLaws`, 16 by the rows that the code keeps; `SharingLaws`, 16 by where loops
-- close and what they stand in; `OrLaws`, which they cite.
pub mod OrLaws
pub mod LoopLaws
pub mod IteratorLaws
pub mod SharingLaws
