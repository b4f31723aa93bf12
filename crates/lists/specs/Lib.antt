-- The words in which every layer says what it computes: a list place by place, a sum, the first place of a test.
pub mod Tab
pub mod First
pub mod Falling
