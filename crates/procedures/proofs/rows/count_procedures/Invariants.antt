-- `rows::count_procedures` meets its contract: so many opened among the rows passed.
-- Assumes nothing.
use Prim.Native.Nat.{◌≤◌}
use mathlib.Core.Path.{◌≡◌}
use Rattle.model.specs.Procedures.{opened_before}
use Rattle.kinds.specs.Code.{table_in}
use Rattle.procedures.proofs.rows.count_procedures.Given as goal

abbrev pub invariant-loop-row : goal.invariant-loop-row
invariant-loop-row l = (l.opened ≤ l.row) × (l.opened ≡ opened_before (table_in l.lines) l.row)
