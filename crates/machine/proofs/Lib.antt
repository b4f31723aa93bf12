-- The theory of the machines: `StateLaws`, the state after a step; `FreshLaws`, a fresh record.
pub mod StateLaws
pub mod FreshLaws
