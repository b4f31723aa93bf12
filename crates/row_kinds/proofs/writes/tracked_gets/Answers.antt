-- By whether the place is tracked.
-- Assumes nothing.
use Rattle.row_kinds.specs.CodeRows.{tracked_gets}
use Rattle.row_kinds.proofs.writes.tracked_gets.Goals as goal

pub returns-then-is_tracked : goal.returns-then-is_tracked
unfolding tracked_gets
returns-then-is_tracked c =
    rw (← c.is_tracked.ensures, c.if-is_tracked.true, ← c.class_in.ensures, ← c.class_in-then-is_tracked.ensures) c.cell_gets.ensures

pub returns : goal.returns
unfolding tracked_gets
returns c = rw (← c.is_tracked.ensures, c.if-is_tracked.false)
