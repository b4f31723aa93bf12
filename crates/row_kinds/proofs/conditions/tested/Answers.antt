-- By the answer.
-- Assumes nothing.
use mathlib.Core.Path.{◌∙◌}
use Rattle.row_kinds.specs.CodeRows.{on_bool}
use Rattle.row_kinds.proofs.PutLaws.{lost-bool}
use Rattle.evaluators.proofs.OtherAnswers.{answer-no-bool}
use Rattle.row_kinds.proofs.conditions.tested.Goals as goal

pub returns-in_default : goal.returns-in_default
returns-in_default c = c.lost.ensures ∙ lost-bool _ _ (answer-no-bool _ c.in_default.not-Bool)

pub returns-then-yes : goal.returns-then-yes
unfolding on_bool
returns-then-yes c = rw (c.in-Bool.is, c.if-yes.true)

pub returns : goal.returns
unfolding on_bool
returns c = rw (c.in-Bool.is, c.if-yes.false, c.false_end.ensures)
