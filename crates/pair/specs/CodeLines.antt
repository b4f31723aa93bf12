-- The code's own words: where the plain run's line comes from.
use Rattle.std.specs.Prelude.{◌≡◌, ◌≢◌, ℕ, List, []}
use Rattle.model.specs.Step.End.{list_full}
use Rattle.model.specs.Demand3.{plain_run}
use Rattle.machine.specs.View.{end_of}
use Rattle.runs.specs.declared.Ran.{Ran}
use Rattle.pair.specs.declared.Line.{Line}
use Rattle.pair.specs.Pairs.{line_of, line_said}
use Rattle.pair.specs.Pairs.LineSaid.{line}

-- the line r is what the writer handed back, unless its list was full; then it is the plain run's own
pub record PlainOf (t : List ℕ) (limit : ℕ) (ran : Ran) (r : Line) : Type 0 where
  pub full : end_of ran.end ≡ list_full → line_of r ≡ line_said [] (plain_run t limit)
  pub other : end_of ran.end ≢ list_full → line_of r ≡ line (end_of ran.end) ran.«record».machine.row ran.steps 0
