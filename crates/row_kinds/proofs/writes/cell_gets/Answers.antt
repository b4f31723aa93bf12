-- By the array's cells, then by those lent.
-- Assumes nothing.
use borrow.Author.Tests.{lt-ltb, le-ltb}
use Rattle.row_kinds.specs.CodeRows.{cell_gets}
use Rattle.row_kinds.proofs.writes.cell_gets.Goals as goal

pub returns-then-size-i : goal.returns-then-size-i
unfolding cell_gets
returns-then-size-i c = rw (le-ltb _ _ c.if-size-i.true)

pub returns-then-p-room : goal.returns-then-p-room
unfolding cell_gets
returns-then-p-room c = rw (lt-ltb _ _ c.if-size-i.false, lt-ltb _ _ c.if-p-room.true)

pub returns : goal.returns
unfolding cell_gets
returns c = rw (lt-ltb _ _ c.if-size-i.false, le-ltb _ _ c.if-p-room.false)
