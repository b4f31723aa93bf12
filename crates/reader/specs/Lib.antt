-- What a reader of the choice list gives.
pub mod Choose
