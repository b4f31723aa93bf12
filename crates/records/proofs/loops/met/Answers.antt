-- By whether a loop is left, and whether it is at the row.
-- Assumes nothing.
use native.Mathlib.Omega.{arith}
use mathlib.Core.Path.{◌∙◌}
use Rattle.records.proofs.StandLaws.{met-none, met-some}
use Rattle.records.proofs.loops.met.Goals as goal

pub returns-in_err-last : goal.returns-in_err-last
returns-in_err-last c = c.from_residual.ensures ∙ met-none _ _ _ (omega (arith, c.in_err-last.ensures))

pub returns : goal.returns
returns c =
    c.then_some.ensures ∙ met-some _ _ _ (omega (arith, c.in_ok-last.ensures)) c.word_or_zero-row.ensures
