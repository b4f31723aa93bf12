-- What the choice writer hands back, seen as the model's report.
use Rattle.std.specs.Prelude.{ℕ, List, take}
use Rattle.model.specs.Step.{Report}
use Rattle.model.specs.Step.Report.{ended}
use Rattle.prepared.specs.declared.Frame.{Frame}
use Rattle.machine.specs.View.{end_of, state_of}
use Rattle.runs.specs.declared.Ran.{Ran}

-- end, steps, the record with the cells, and the numbers written
abbrev pub report_of : List ℕ → Frame → Ran → List ℕ → List ℕ → Report
report_of t f r cells list = ended (end_of r.end) r.steps (state_of t f r.«record» cells) (take r.used list)
