-- What the choice writer checks of what it is lent.
use Rattle.std.specs.Prelude.{ℕ, List}
use Rattle.table.specs.Verdict.{Verdict}
use Rattle.table.specs.Checks.{table_check, and_then, size_check}
use Rattle.model.specs.State.{cell_count}
use Rattle.model.specs.State.MachineKind.{plain}
use Rattle.reduction.specs.Reduction.{places_check}

-- the table's checks by the plain rules, 13, 14 (rule 6.21). A list may be of any length
unfoldable pub writer_checks : List ℕ → List ℕ → ℕ → Verdict
writer_checks ps t cells = and_then (table_check plain t) (and_then (places_check ps) (size_check cells (cell_count plain)))
