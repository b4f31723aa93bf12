-- The theory of check 15: `ProcedureLaws`, what check 17 gives of procedures; `RecordLaws`, what a record that fits is; and the laws by which the
-- code is proved, of where the run or a caller stands, of the callers, of the variables, of the arrays, and of the conditions together.
pub mod ProcedureLaws
pub mod RecordLaws
pub mod StandLaws
pub mod CallerLaws
pub mod VariableLaws
pub mod ArrayLaws
pub mod FitLaws
