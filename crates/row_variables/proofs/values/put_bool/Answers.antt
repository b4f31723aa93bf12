-- By the answer.
-- Assumes nothing.
use mathlib.Core.Path.{◌∙◌}
use Rattle.prepared.proofs.FormLaws.{flag-number}
use Rattle.row_kinds.specs.CodeRows.{on_bool}
use Rattle.row_kinds.proofs.PutLaws.{lost-bool}
use Rattle.evaluators.proofs.OtherAnswers.{answer-no-bool}
use Rattle.row_variables.proofs.values.put_bool.Goals as goal

pub returns-in_default : goal.returns-in_default
returns-in_default c = c.lost.ensures ∙ lost-bool _ _ (answer-no-bool _ c.in_default.not-Bool)

pub returns : goal.returns
unfolding on_bool
returns c = c.put.ensures ∙ rw (c.from.ensures, flag-number _, c.in-Bool.is)
