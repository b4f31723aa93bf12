-- `loops::matching_end` meets its contract: the end is what the rest of the scan finds.
-- Assumes nothing.
use Prim.Native.Nat.{◌-◌, ◌≤◌}
use mathlib.Core.Path.{◌≡◌}
use Rattle.model.specs.Table.{matching_end}
use Rattle.kinds.specs.Code.{table_by}
use Rattle.loop_checks.specs.Code.{scan_from}
use Rattle.loop_checks.proofs.loops.matching_end.Given as goal

abbrev pub invariant-scan : goal.invariant-scan
invariant-scan l =
    let t = table_by l.words l.counts in (l.i ≤ l.counts.rows) × (l.inner ≤ l.i) × (matching_end t l.row ≡ scan_from t l.i l.inner)

abbrev pub decreases-scan : goal.decreases-scan
decreases-scan l = l.counts.rows - l.i
