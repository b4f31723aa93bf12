-- What a run hands back, seen as the model's report.
use Rattle.std.specs.Prelude.{ℕ, List, drop}
use Rattle.model.specs.Step.{Report}
use Rattle.model.specs.Step.Report.{ended}
use Rattle.prepared.specs.declared.Frame.{Frame}
use Rattle.runs.specs.declared.Ran.{Ran}
use Rattle.machine.specs.View.{end_of, state_of}

-- end, steps, the record with the cells, and the choices left
abbrev pub report_of : List ℕ → Frame → List ℕ → Ran → List ℕ → Report
report_of t f l r cells = ended (end_of r.end) r.steps (state_of t f r.«record» cells) (drop r.used l)
