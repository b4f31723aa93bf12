-- The code's own words: what the loop of a run is lent, and how it stops.
use Rattle.std.specs.Prelude.{◌≡◌, ℕ, suc, ◌<◌, ◌≤◌, List, length}
use Rattle.model.specs.Table.{nest_at, open_at}
use Rattle.model.specs.Table.Nest.{opens}
use Rattle.model.specs.Step.{Report, run}
use Rattle.model.specs.Accepted.{Accepted, CanHave, Regular}
use Rattle.kinds.specs.Code.{InSorts}
use Rattle.machine.specs.declared.Machine.{Machine}
use Rattle.machine.specs.declared.Record.{Record}
use Rattle.prepared.specs.declared.Frame.{Frame}
use Rattle.machine.specs.declared.End.{End}
use Rattle.machine.specs.declared.End.TheVariants as Code
use Rattle.machine.specs.declared.Worked.{Worked}
use Rattle.machine.specs.declared.Worked.TheVariants.{Moves, Ends, Not}
use Rattle.machine.specs.declared.Failure.{Failure}
use Rattle.machine.specs.declared.Failure.TheVariants.{Fails, BadChoice, NoChoice, Stuck}
use Rattle.runs.specs.declared.Ran.{Ran}
use Rattle.prepared.specs.View.{places, kind_of, table_for}
use Rattle.machine.specs.View.{state_of}
use Rattle.table.specs.Verdict.Verdict.{Passes}
use Rattle.model.specs.Table.{table_of}
use Rattle.runs.specs.Checks.{run_checks}
use Rattle.runs.specs.Ends.{report_of}

-- a table that passes its checks, and a record that 15 does not refuse
pub record Ready (t : List ℕ) (f : Frame) (r : Record) (cells : List ℕ) : Type 0 where
  pub accepted : Accepted (kind_of f) (table_for t f)
  pub laid : InSorts (table_for t f)
  pub few : (i : ℕ) → i < f.counts.rows → nest_at (table_for t f) i ≡ opens → length (open_at (table_for t f) i) < 8
  pub can : CanHave (places f) (kind_of f) (table_for t f) (state_of t f r cells)
  pub regular : Regular (places f) (kind_of f) (table_for t f) (state_of t f r cells)
  pub room : length cells ≤ 4294967295

-- a machine with its stack
abbrev pub kept : Machine → List ℕ → Record
kept m stack = record { machine = m; stack = stack }

abbrev pub ran : End → ℕ → ℕ → Machine → List ℕ → Ran
ran e n at m stack = record { end = e; steps = n; used = at; «record» = kept m stack }

-- A row that does not go on, after n steps, with the next choice at `at`: which steps and choices count (rule 2.29). No step of a run is
-- stuck, and none that goes on is asked of, so what stands there is never handed back.
abbrev pub failed_of : Failure → ℕ → ℕ → ℕ → Machine → List ℕ → Ran
failed_of (Fails reason) next n at m stack = ran (Code.Fail reason) (suc n) next m stack
failed_of BadChoice next n at m stack = ran Code.ChoiceNotAllowed n at m stack
failed_of NoChoice next n at m stack = ran Code.NoChoiceLeft n at m stack
failed_of Stuck next n at m stack = ran Code.OutOfSteps n at m stack

abbrev pub stopped_of : Worked → ℕ → ℕ → Machine → List ℕ → Ran
stopped_of (Moves x next) n at m stack = ran Code.OutOfSteps n at m stack
stopped_of (Ends e next) n at m stack = ran e (suc n) next m stack
stopped_of (Not why next) n at m stack = failed_of why next n at m stack

-- what a run hands back is a report, and the choices used are numbers of the list
pub record Reports (t : List ℕ) (f : Frame) (l : List ℕ) (r : Ran) (cells : List ℕ) (said : Report) : Type 0 where
  pub report : report_of t f l r cells ≡ said
  pub within : r.used ≤ length l

-- ... of the run from a record on, with a limit
abbrev pub RunReports : List ℕ → Frame → Record → List ℕ → List ℕ → ℕ → Ran → List ℕ → Type 0
RunReports t f r cells l limit z cells' = report_of t f l z cells' ≡ run (places f) (table_for t f) limit 0 (state_of t f r cells) l

-- a table, its frame and cells that pass
pub record Lends (t : List ℕ) (f : Frame) (cells : List ℕ) : Type 0 where
  pub framed : table_for t f ≡ table_of t
  pub passes : run_checks (kind_of f) (places f) t (length cells) ≡ Passes
