-- The theory of the pair of runs: laws of its lines, of the writer's answer, and of the input with its file; and what is proved of the lines.
pub mod LineLaws
pub mod WriterLaws
pub mod InputLaws
pub mod PairPromises
