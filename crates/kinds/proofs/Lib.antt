-- Proofs of what the checks of a table share.
pub mod KindLaws
pub mod TypeNumbers
pub mod LineLaws
