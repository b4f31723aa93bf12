-- The parts of a step of the choice writer: `CodeWriting`.
pub mod CodeWriting
