-- What a run checks of what it is lent, and the frame of a table.
use Rattle.std.specs.Prelude.{ℕ, Bool, List}
use Rattle.table.specs.Verdict.{Verdict}
use Rattle.table.specs.Verdict.Verdict.{Passes, Refused}
use Rattle.table.specs.Checks.{table_check, and_then, size_check}
use Rattle.std.specs.Prelude.{if◌then◌else◌}
use Rattle.model.specs.Table.{Table, count, is_declaration, is_node, is_row}
use Rattle.model.specs.State.{MachineKind, State, cell_count}
use Rattle.model.specs.State.MachineKind.{plain, reduced}
use Rattle.reduction.specs.Reduction.{places_check}
use Rattle.prepared.specs.declared.Frame.{Frame}
use Rattle.records.specs.Record.{record_fits}

-- the plain machine tracks no place, and has none checked
abbrev pub places_for : MachineKind → List ℕ → Verdict
places_for plain ps = Passes
places_for reduced ps = places_check ps

-- the table's checks by the rules of the machine, 13, 14 (rules 6.2, 6.21)
unfoldable pub run_checks : MachineKind → List ℕ → List ℕ → ℕ → Verdict
run_checks m ps t cells = and_then (table_check m t) (and_then (places_for m ps) (size_check cells (cell_count m)))

-- the frame of a table, with its counts of lines, for the machine with these places
abbrev pub frame_of : List ℕ → Bool → ℕ → ℕ → Frame
frame_of t classes c1 c2 = record {
  c1 = c1;
  c2 = c2;
  classes = classes;
  counts = record { decls = count is_declaration t; nodes = count is_node t; rows = count is_row t };
}

-- 15, at place 0 (rules 6.3, 6.20)
abbrev pub record_check : MachineKind → List ℕ → Table → State → Verdict
record_check m ps t s = if record_fits m ps t s then Passes else Refused 15 0
