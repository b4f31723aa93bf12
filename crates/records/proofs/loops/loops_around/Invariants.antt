-- What is left is compared with the loops before the row that the walk has come to.
-- Assumes nothing.
use Prim.Native.Nat.{◌+◌, ◌≤◌}
use Rattle.kinds.specs.Code.{table_by}
use Rattle.records.proofs.StandLaws.{Around}
use Rattle.records.proofs.loops.loops_around.Given as goal

abbrev pub invariant-loop-i : goal.invariant-loop-i
invariant-loop-i l = (l.closed + l.i ≤ l.row) × Around (table_by l.t l.counts) l.row l.open l.rows l.closed l.left l.i
