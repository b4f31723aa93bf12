-- The evaluators: `Reasons`, the code's reasons as the model's; `CodeAnswers`, what an answer says and what an evaluator is lent;
-- `CodeInputs`, the same of what the code lends; `CodeLeaves`, what the parts of the evaluators say.
pub mod CodeAnswers
pub mod CodeInputs
pub mod CodeLeaves
pub mod Reasons
