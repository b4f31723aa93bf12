-- The theory of the printed text.
pub mod TextLaws
