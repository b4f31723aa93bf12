-- By the answer.
-- Assumes nothing.
use mathlib.Core.Path.{◌∙◌}
use Rattle.row_kinds.specs.CodeRows.{on_uint, returned_of}
use Rattle.row_kinds.proofs.PutLaws.{lost-uint}
use Rattle.evaluators.proofs.OtherAnswers.{answer-no-uint}
use Rattle.row_kinds.proofs.calling.returned.Goals as goal

pub returns-in_default : goal.returns-in_default
unfolding returned_of
returns-in_default c = c.lost.ensures ∙ lost-uint _ _ (answer-no-uint _ c.in_default.not-Uint)

pub returns : goal.returns
unfolding on_uint returned_of
returns c = rw c.in-Uint.is
