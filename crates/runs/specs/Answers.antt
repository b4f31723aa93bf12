-- What a run says to the user.
use Rattle.std.specs.Prelude.{ℕ, List, length, Result, Ok, Err}
use Rattle.runs.specs.Ends.{report_of}
use Rattle.table.specs.declared.verdict.Refusal.{Refusal}
use Rattle.table.specs.Verdict.{Verdict, check_number}
use Rattle.table.specs.Verdict.Verdict.{Passes, Refused}
use Rattle.table.specs.Checks.{and_then}
use Rattle.model.specs.Table.{table_of}
use Rattle.model.specs.State.{MachineKind, State, fresh}
use Rattle.model.specs.Step.{Report, run}
use Rattle.model.specs.Demand3.{choices_used}
use Rattle.prepared.specs.declared.Frame.{Frame}
use Rattle.runs.specs.declared.Ran.{Ran}
use Rattle.runs.specs.Checks.{run_checks, record_check}

-- a refusal, with its number and place and the cells at exit; or a run's report, which has end, steps, the record and the cells at exit,
-- and the choices used
pub data Said : Type 0 where
  refusal : ℕ → ℕ → List ℕ → Said
  reports : Report → ℕ → Said

-- by a verdict
abbrev pub said_by : Verdict → List ℕ → Said → Said
said_by Passes cells said = said
said_by (Refused number place) cells said = refusal number place cells

-- an answer, with the cells at exit and the list of choices l
abbrev pub said_of : List ℕ → Frame → List ℕ → Result Ran Refusal → List ℕ → Said
said_of t f l (Ok ran) cells = reports (report_of t f l ran cells) ran.used
said_of t f l (Err refused) cells = refusal (check_number refused.check) refused.place cells

-- what a run of the model says: its report and the choices used
abbrev pub ran_said : List ℕ → Report → Said
ran_said l report = reports report (choices_used l report)

-- a fresh run (rule 2.32) of the machine m, which tracks the places ps; a refusal leaves the cells as they were lent (rule 6.4)
unfoldable pub fresh_said : MachineKind → List ℕ → List ℕ → List ℕ → List ℕ → ℕ → Said
fresh_said m ps t cells l limit = said_by (run_checks m ps t (length cells)) cells (ran_said l (run ps (table_of t) limit 0 (fresh ps m (table_of t)) l))

-- a run from the state s, which has the record and the lent cells (rule 2.33); 15 comes last (rule 6.2)
unfoldable pub continued_said : MachineKind → List ℕ → List ℕ → State → List ℕ → ℕ → Said
continued_said m ps t s l limit =
    let v = and_then (run_checks m ps t (length s.cells)) (record_check m ps (table_of t) s) in
    said_by v s.cells (ran_said l (run ps (table_of t) limit 0 s l))
