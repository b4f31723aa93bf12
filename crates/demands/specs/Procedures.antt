-- Procedures (rules 1.19 to 1.22, 2.39 to 2.44, 4.12, 6.24, 7.15 to 7.18): which uses of locals and which calls 17 refuses, that no state of a run
-- holds a nonzero local of a procedure that is not at work, that a run is done at main's end, that 15 covers the callers, and that runs which match
-- hand back equal callers; said of the definitions of which those of the public promises are made. That a run with calls is matched by a reduced one
-- is Demand3, one claim still. Proved in proofs/ProceduresProof.
use Rattle.std.specs.Prelude.{◌≡◌, ℕ, ◌<◌, ◌≤◌, true, false, List, [], length}
use Rattle.table.specs.Verdict.Verdict.{Passes, Refused}
use Rattle.table.specs.Checks.{table_check}
use Rattle.model.specs.Class.{pair}
use Rattle.model.specs.Table.{Table, table_of, home}
use Rattle.model.specs.State.{MachineKind, Caller, State, most_callers}
use Rattle.model.specs.State.MachineKind.{plain}
use Rattle.model.specs.Step.{Report, finished}
use Rattle.model.specs.Step.Report.{ended, no_end}
use Rattle.model.specs.Reduce.{reduce}
use Rattle.model.specs.Procedures.{UsesRightHolds}
use Rattle.model.specs.Accepted.{Stacked, CallersStarted}
use Rattle.model.specs.Demand3.{Numbers, wants_cells, plain_run, reduced_run, choice_list}
use Rattle.model.specs.EmptyClasses.{StateAfter}
use Rattle.model.specs.IdleLocals.{IdleZero}
use Rattle.model.specs.MainEnd.{AtMainEnd}
use Rattle.runs.specs.Checks.{record_check}
use Rattle.demands.specs.Neighbours.{Starts}

-- No state of a run holds a nonzero local of a procedure that is not at work, from a fresh start or a record that 15 does not refuse and under
-- choices of 32 bits (rules 2.40, 2.42, 7.18)
abbrev pub IdleAreZero : Type 0
IdleAreZero =
    (m : MachineKind) (ps t : List ℕ) → table_check m t ≡ Passes → (s : State) → Starts m ps (table_of t) s → (choices : List ℕ) → Numbers choices
    → (n : ℕ) (r : State) → StateAfter ps (table_of t) n s choices r → IdleZero (table_of t) r

-- A run is done at main's end and nowhere else, from such a start (rule 2.28)
abbrev pub DoneWhereMainEnds : Type 0
DoneWhereMainEnds =
    (m : MachineKind) (ps t : List ℕ) → table_check m t ≡ Passes → (s : State) → Starts m ps (table_of t) s → (choices : List ℕ)
    → (n : ℕ) (r : State) → StateAfter ps (table_of t) n s choices r
    → (finished (table_of t) r ≡ true → AtMainEnd (table_of t) r) × (AtMainEnd (table_of t) r → finished (table_of t) r ≡ true)

-- what 15 asks of the callers and of the locals: at most eight callers, the last kept at a 45 that calls what is at work, each other one at a 45 that
-- calls what the next stands in, the first in main, as the run does where there is none; each with the loops around its 45, none of which starts above
-- its end; and 0 in each local that is not of what is at work (rules 7.15 to 7.18)
pub record StackRight (t : Table) (s : State) : Type 0 where
  pub few : length s.callers ≤ most_callers
  pub calls : Stacked t (home t s.here.row) s.callers
  pub started : CallersStarted s.callers
  pub idle : IdleZero t s

-- 15 refuses every other record
abbrev pub StackRefused : Type 0
StackRefused = (m : MachineKind) (ps : List ℕ) (t : Table) (s : State) → (StackRight t s → ⊥) → record_check m ps t s ≡ Refused 15 0

-- the callers of the state that a run hands back
abbrev pub callers_left : Report → List Caller
callers_left (ended e n s left) = s.callers
callers_left no_end = []

-- A plain run and the reduced run under its choices hand back equal callers (rules 4.12, 10.8)
abbrev pub CallersMatch : Type 0
CallersMatch =
    (c1 c2 : ℕ) → c1 < c2 → (P : List ℕ) → table_check plain P ≡ Passes → (limit : ℕ) → wants_cells (plain_run P limit) ≡ false
    → callers_left (reduced_run (pair c1 c2) (reduce P) limit (choice_list (pair c1 c2) P limit)) ≡ callers_left (plain_run P limit)

pub record Procedures : Type 0 where
  -- which rows use a local of a procedure in which they do not stand, and which calls name a procedure
  pub used : UsesRightHolds
  pub idle : IdleAreZero
  pub done : DoneWhereMainEnds
  pub refused : StackRefused
  pub matched : CallersMatch
