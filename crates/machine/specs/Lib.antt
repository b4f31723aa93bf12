-- The machines: `Reasons`, why there is no value; `View`, the record as the model's state; `CodeMoves`, what a row comes to and
-- the step it makes; `CodeFresh`, a fresh record.
pub mod Reasons
pub mod View
pub mod CodeMoves
pub mod CodeFresh
