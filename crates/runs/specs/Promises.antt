-- What is proved of the runs: proofs/RunPromises.
use Rattle.std.specs.Prelude.{◌≡◌, ◌≢◌, ℕ, true, List, length}
use Rattle.table.specs.Verdict.Verdict.{Passes}
use Rattle.table.specs.Checks.{table_check}
use Rattle.model.specs.Class.{accepted_places}
use Rattle.model.specs.Table.{Table, table_of}
use Rattle.model.specs.State.{MachineKind, State, cell_count}
use Rattle.model.specs.Step.{End}
use Rattle.model.specs.Step.Report.{ended, no_end}
use Rattle.model.specs.Demand3.{Leaves, MachineEnd, Numbers}
use Rattle.records.specs.Record.{record_fits}
use Rattle.records.specs.RecordPromises.{CanBe}
use Rattle.runs.specs.Answers.{Said, fresh_said, continued_said}
use Rattle.runs.specs.Answers.Said.{refusal, reports}

-- an end of its machine, under the choices l, with a record that 15 does not refuse; the choices left are the end of l, and as many are
-- counted as stand before them
pub record EndsWell (m : MachineKind) (ps : List ℕ) (t : Table) (l : List ℕ) (e : End) (s : State) (left : List ℕ) (used : ℕ) : Type 0 where
  pub end : MachineEnd m e
  pub fits : record_fits m ps t s ≡ true
  pub leaves : Leaves m l left
  pub counted : used ≡ length leaves.taken

-- a run says such an end: no refusal, and never the outcome that is no end
abbrev pub SaysEnd : MachineKind → List ℕ → Table → List ℕ → Said → Type 0
SaysEnd m ps t l (refusal number place cells) = ⊥
SaysEnd m ps t l (reports (ended e n s left) used) = EndsWell m ps t l e s left used
SaysEnd m ps t l (reports no_end used) = ⊥

-- What a run says where its table and its places pass: 14 for cells of another size, 15 where Can, that the table can have the record, is
-- false, and an end in every other case
pub record SaysRight (m : MachineKind) (ps : List ℕ) (t : Table) (l cells : List ℕ) (Can : Type 0) (said : Said) : Type 0 where
  pub other_size : length cells ≢ cell_count m → said ≡ refusal 14 0 cells
  pub cannot : length cells ≡ cell_count m → (Can → ⊥) → said ≡ refusal 15 0 cells
  pub ends : length cells ≡ cell_count m → Can → SaysEnd m ps t l said

-- Demand 3: "no run of P or Q, fresh or continued from a record that is not refused, meets an operand of the wrong kind or a cell outside its
-- memory" (rule 10.7): what `run_plain` and `run_reduced` say, of choices of 32 bits
abbrev pub FreshEnds : Type 0
FreshEnds =
    (m : MachineKind) (ps : List ℕ) → accepted_places ps ≡ true → (t : List ℕ) → table_check m t ≡ Passes → (cells l : List ℕ) → Numbers l → (limit : ℕ)
    → SaysRight m ps (table_of t) l cells (Unit {0}) (fresh_said m ps t cells l limit)

-- ... and `continue_plain` and `continue_reduced`
abbrev pub ContinuedEnds : Type 0
ContinuedEnds =
    (m : MachineKind) (ps : List ℕ) → accepted_places ps ≡ true → (t : List ℕ) → table_check m t ≡ Passes → (s : State) (l : List ℕ) → Numbers l → (limit : ℕ)
    → SaysRight m ps (table_of t) l s.cells (CanBe m ps (table_of t) s) (continued_said m ps t s l limit)
