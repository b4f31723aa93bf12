-- By the answer.
-- Assumes nothing.
use mathlib.Core.Path.{◌∙◌}
use Rattle.row_kinds.specs.CodeRows.{on_uint}
use Rattle.row_kinds.proofs.PutLaws.{lost-uint}
use Rattle.evaluators.proofs.OtherAnswers.{answer-no-uint}
use Rattle.row_variables.proofs.arrays.laid.Goals as goal

pub returns-in_default : goal.returns-in_default
returns-in_default c = c.lost.ensures ∙ lost-uint _ _ (answer-no-uint _ c.in_default.not-Uint)

pub returns : goal.returns
unfolding on_uint
returns c = c.lay.ensures ∙ rw c.in-Uint.is
