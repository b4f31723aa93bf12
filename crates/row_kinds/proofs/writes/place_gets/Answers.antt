-- By the array's length, then by which row it is and whether the array is reduced.
-- Assumes nothing.
use borrow.Author.Tests.{lt-ltb, le-ltb}
use Rattle.row_kinds.specs.CodeRows.{place_gets}
use Rattle.row_kinds.proofs.writes.place_gets.Goals as goal

pub returns-then-len-p : goal.returns-then-len-p
unfolding place_gets
returns-then-len-p c = rw (le-ltb _ _ c.if-len-p.true)

pub returns-then-tracking-reduced : goal.returns-then-tracking-reduced
unfolding place_gets
returns-then-tracking-reduced c = rw (lt-ltb _ _ c.if-len-p.false, c.if-tracking-reduced.true) c.tracked_gets.ensures

pub returns : goal.returns
unfolding place_gets
returns c = rw (lt-ltb _ _ c.if-len-p.false, c.if-tracking-reduced.false, ← c.size_for.ensures) c.cell_gets.ensures
