-- The sum so far is that of the arrays so far.
-- Assumes nothing.
use Prim.Native.Nat.{◌≤◌, ◌*◌}
use mathlib.Core.Path.{◌≡◌}
use Rattle.prepared.specs.Own.{places_of}
use Rattle.row_kinds.specs.CodeRows.{used_in}
use Rattle.row_variables.proofs.arrays.used_in.Given as goal

abbrev pub invariant-loop-i : goal.invariant-loop-i
invariant-loop-i l = (l.total ≡ used_in (places_of l.inputs.own.now) l.i l.m.lengths l.m.shapes) × (l.total ≤ l.i * 4294967295)
