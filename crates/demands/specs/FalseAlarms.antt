-- False alarms on the last circuits: the reduced write is judged by its true place and takes no choice (rules 3.17, 3.18), so that a good write never
-- fails; said of the definitions of which those of the public promises are made. That runs are matched with it is Demand3, one claim still. Proved in
-- proofs/FalseAlarmsProof.
use Rattle.std.specs.Prelude.{◌≡◌, ℕ, List}
use Rattle.table.specs.Verdict.Verdict.{Passes}
use Rattle.table.specs.Checks.{table_check}
use Rattle.model.specs.Table.{table_of, row_at, row_kind}
use Rattle.model.specs.Table.Row.{reduced_store}
use Rattle.model.specs.State.{State}
use Rattle.model.specs.State.MachineKind.{reduced}
use Rattle.model.specs.EmptyClasses.{StateAfter}
use Rattle.model.specs.TruePlace.{JudgedByPlace, RowsFailAlike}
use Rattle.demands.specs.Neighbours.{Starts}

-- In every state of a reduced run, from a fresh start or a record that 15 does not refuse, a 40 is judged by its place: where it fails, and that it is
-- written or dropped elsewhere, whatever the choices (rules 3.17, 3.18)
abbrev pub JudgedInEveryState : Type 0
JudgedInEveryState =
    (ps t : List ℕ) → table_check reduced t ≡ Passes → (s : State) → Starts reduced ps (table_of t) s → (choices : List ℕ)
    → (n : ℕ) (r : State) → StateAfter ps (table_of t) n s choices r → (row : ℕ) → row_kind (row_at (table_of t) row).kind ≡ reduced_store
    → (x : ℕ) (cs left : List ℕ) → JudgedByPlace ps (table_of t) r row x cs left

pub record FalseAlarms : Type 0 where
  pub judged : JudgedInEveryState
  -- row 40 fails exactly where row 34 does (rule 3.17)
  pub alike : RowsFailAlike
