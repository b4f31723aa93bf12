-- The theory of the evaluators: laws of answers, of what is lent and of nodes.
pub mod AnswerLaws
pub mod ViewLaws
pub mod NodeLaws
pub mod InputLaws
pub mod OtherAnswers
pub mod OtherNodes
