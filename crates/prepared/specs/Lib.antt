-- What a run is told and its own copy of the table: `View`, the frame and the forms of variables; `Own`, the copy as a table; `CodeOwn`, what
-- the code does to the words of the copy; `Same`, what is proved of the copy and the table.
pub mod View
pub mod Own
pub mod CodeOwn
pub mod Same
