-- The checks of a line: `Rules`, when a line breaks one; `Code`, what the code keeps.
pub mod Rules
pub mod Code
