-- The rows: `CodeRows`, what the parts of the rows say.
pub mod CodeRows
