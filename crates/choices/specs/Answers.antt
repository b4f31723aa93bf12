-- What the choice writer says to the user.
use Rattle.std.specs.Prelude.{ℕ, List, [], ◌++◌, length, drop, Result, Ok, Err}
use Rattle.choices.specs.Ends.{report_of}
use Rattle.table.specs.declared.verdict.Refusal.{Refusal}
use Rattle.table.specs.Verdict.{Verdict, check_number}
use Rattle.table.specs.Verdict.Verdict.{Passes, Refused}
use Rattle.model.specs.Step.{Report}
use Rattle.model.specs.Step.Report.{ended, no_end}
use Rattle.model.specs.Demand3.{writer_run}
use Rattle.prepared.specs.declared.Frame.{Frame}
use Rattle.runs.specs.declared.Ran.{Ran}
use Rattle.choices.specs.Checks.{writer_checks}

-- a refusal, with its number and place, the cells and the list at exit; or a report, which has end, steps, the record, the cells at exit and
-- the numbers written, with their count and the list at exit
pub data Said : Type 0 where
  refusal : ℕ → ℕ → List ℕ → List ℕ → Said
  writes : Report → ℕ → List ℕ → Said

-- by a verdict
abbrev pub said_by : Verdict → List ℕ → List ℕ → Said → Said
said_by Passes cells list said = said
said_by (Refused number place) cells list said = refusal number place cells list

-- an answer, with the cells and the list at exit
abbrev pub said_of : List ℕ → Frame → Result Ran Refusal → List ℕ → List ℕ → Said
said_of t f (Ok ran) cells list = writes (report_of t f ran cells list) ran.used list
said_of t f (Err refused) cells list = refusal (check_number refused.check) refused.place cells list

-- the numbers of the writer's report
abbrev pub numbers_of : Report → List ℕ
numbers_of (ended e n s xs) = xs
numbers_of no_end = []

-- the numbers, and after them the list as it was lent (rule 4.10)
abbrev pub wrote_said : List ℕ → Report → Said
wrote_said lent report = writes report (length (numbers_of report)) (numbers_of report ++ drop (length (numbers_of report)) lent)

-- a fresh run of the plain table (rule 4.5); a refusal leaves cells and list as they were lent (rule 6.4)
unfoldable pub writer_said : List ℕ → List ℕ → List ℕ → List ℕ → ℕ → Said
writer_said ps t cells lent limit = said_by (writer_checks ps t (length cells)) cells lent (wrote_said lent (writer_run ps t limit (length lent)))
