-- `map_procedures` meets its contract: before each row the map is right of the procedures opened before it and of the rows above it.
-- Assumes nothing.
use Prim.Native.Nat.{◌≤◌}
use mathlib.Core.Path.{◌≡◌}
use Rattle.model.specs.Table.{home}
use Rattle.model.specs.Procedures.{opened_before}
use Rattle.kinds.specs.Code.{table_by}
use Rattle.procedures.proofs.MapLaws.{MappedBefore}
use Rattle.procedures.proofs.map_procedures.Given as goal

abbrev pub invariant-loop-row : goal.invariant-loop-row
invariant-loop-row l =
    (l.home ≤ l.row)
    × (l.opened ≤ l.row)
    × (l.home ≡ home (table_by l.words l.counts) l.row)
    × (l.opened ≡ opened_before (table_by l.words l.counts) l.row)
    × MappedBefore (table_by l.words l.counts) l.map l.row
