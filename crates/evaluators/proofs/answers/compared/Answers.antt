-- Each test by its own definition.
-- Assumes nothing.
use Rattle.evaluators.proofs.AnswerLaws.{said-bool}
use Rattle.evaluators.proofs.answers.compared.Goals as goal

pub returns-in-Less : goal.returns-in-Less
returns-in-Less c = record { says = λ l. said-bool (rw c.in-Less.is) }

pub returns-in-AtMost : goal.returns-in-AtMost
returns-in-AtMost c = record { says = λ l. said-bool (rw c.in-AtMost.is) }

pub returns-in-Equal : goal.returns-in-Equal
returns-in-Equal c = record { says = λ l. said-bool (rw c.in-Equal.is) }
