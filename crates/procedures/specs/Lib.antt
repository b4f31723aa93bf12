-- The procedures of a table: check 17, and the map by which a machine finds them.
pub mod Map
pub mod Misplaced
pub mod Code
