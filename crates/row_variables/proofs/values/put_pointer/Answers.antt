-- By the answer.
-- Assumes nothing.
use mathlib.Core.Path.{◌∙◌}
use Rattle.row_kinds.specs.CodeRows.{on_pointer}
use Rattle.row_kinds.proofs.PutLaws.{lost-pointer}
use Rattle.evaluators.proofs.OtherAnswers.{answer-no-pointer}
use Rattle.row_variables.proofs.values.put_pointer.Goals as goal

pub returns-in_default : goal.returns-in_default
returns-in_default c = c.lost.ensures ∙ lost-pointer _ _ (answer-no-pointer _ c.in_default.not-Pointer)

pub returns : goal.returns
unfolding on_pointer
returns c = c.put.ensures ∙ rw c.in-Pointer.is
