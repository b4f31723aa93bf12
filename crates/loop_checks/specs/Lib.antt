-- The checks of loops: what 11 and 16 refuse, and what 16 is about.
pub mod Rules
pub mod Code
pub mod Sharing
