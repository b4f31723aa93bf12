-- Calls and returns: `Stack`, the callers in the words of a lent stack; `CallAndReturn`, what a call and a return do to the words; `Code`, what the
-- parts of the code do.
pub mod Stack
pub mod CallAndReturn
pub mod Code
