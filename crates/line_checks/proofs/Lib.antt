-- The laws by which the checks of a line are proved: `OperandLaws`, 7; `TypeLaws`, 9 and 12; `DepthLaws`, 10.
pub mod OperandLaws
pub mod TypeLaws
pub mod DepthLaws
