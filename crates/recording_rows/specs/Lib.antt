-- The choices that a plain step hands to the reduced one, as a lent buffer has them.
pub mod CodeMoves
