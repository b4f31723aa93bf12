-- `rows::locals_free` meets its contract: the locals passed are free.
-- Assumes nothing.
use Rattle.procedures.proofs.RowLaws.{FreeUpTo}
use Rattle.procedures.proofs.rows.locals_free.Given as goal

abbrev pub invariant-loop-i : goal.invariant-loop-i
invariant-loop-i l = FreeUpTo l.words l.owners l.a l.count l.first l.i
