-- The place is computed, and the array goes with it.
-- Assumes nothing.
use Rattle.evaluators.proofs.AnswerLaws.{moved_then, moved-else}
use Rattle.evaluators.proofs.OtherAnswers.{answer-no-uint}
use Rattle.evaluators.proofs.answers.shifted.Goals as goal

pub returns-in_default : goal.returns-in_default
returns-in_default c = moved-else _ _ _ _ _ c.computed-x.ensures (answer-no-uint _ c.in_default.not-Uint)

pub returns : goal.returns
returns c = moved_then _ _ _ _ _ c.computed-x.ensures c.in-Uint.is
