-- By the number of the array.
-- Assumes nothing.
use native.Mathlib.Omega.{arith}
use mathlib.Core.Path.{◌∙◌}
use borrow.Author.Tests.{le-ltb}
use Rattle.recording.proofs.RecordLaws.{held-zero, held_none, held-some}
use Rattle.recording.proofs.marks.is_held.Goals as goal

pub returns-in_default : goal.returns-in_default
returns-in_default c = held-zero _ _ _ (omega (arith, c.in_default.ensures))

pub returns-then-i-count : goal.returns-then-i-count
returns-then-i-count c = held-some _ _ _ (omega (arith, c.in-Some.ensures)) c.if-i-count.true

pub returns-else-i-count : goal.returns-else-i-count
returns-else-i-count c =
    le-ltb _ _ c.if-i-count.false ∙ held_none _ _ _ (omega (arith, c.in-Some.ensures, c.if-i-count.false))
