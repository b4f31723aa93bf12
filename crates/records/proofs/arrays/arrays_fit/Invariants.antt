-- The arrays so far are in sequence, up to a cell.
-- Assumes nothing.
use Prim.Native.Nat.{◌*◌, ◌≤◌}
use mathlib.Core.Path.{◌≡◌}
use Rattle.records.proofs.ArrayLaws.{Laying}
use Rattle.records.proofs.arrays.arrays_fit.Given as goal

abbrev pub invariant-loop-i : goal.invariant-loop-i
invariant-loop-i l = (l.n ≡ l.m.count) × (l.n ≤ 16) × (l.from ≤ l.i * 4294967295) × Laying l.cells l.f l.m l.from l.i
