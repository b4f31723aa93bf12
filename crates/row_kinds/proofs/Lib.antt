-- The theory of the rows: `PutLaws`, what a row comes to by its operand, and rows 33, 35 and 36; `LayLaws`, rows 37 and 41; `WriteLaws`, rows 34
-- and 40; `LoopLaws`, rows 38, 42 and 39; `CallingLaws`, rows 44 and 45. Rows 33, 37, 41, 38, 42 and 39 are proved by them in `row_variables`.
pub mod PutLaws
pub mod LayLaws
pub mod WriteLaws
pub mod LoopLaws
pub mod CallingLaws
