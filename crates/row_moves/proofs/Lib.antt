-- The theory of a row where a record stands: `StepLaws`.
pub mod StepLaws
