-- Those below are left, with the first row of what the last of them must call.
-- Assumes nothing.
use Prim.Native.Nat.{◌≤◌}
use Rattle.prepared.specs.View.{table_for}
use Rattle.records.proofs.CallerLaws.{Left}
use Rattle.record_check.proofs.callers.callers_right.Given as goal

abbrev pub invariant-loop-n : goal.invariant-loop-n
invariant-loop-n l = (l.n ≤ 8) × Left (table_for l.t l.f) l.stack l.at_work l.q l.n
