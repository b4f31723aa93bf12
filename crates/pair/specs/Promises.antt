-- What is proved of the two lines: proofs/PairPromises.
use Rattle.std.specs.Prelude.{◌≡◌, ℕ, ◌≤◌, false, List, length}
use Rattle.table.specs.Verdict.Verdict.{Passes}
use Rattle.table.specs.Checks.{table_check, and_then}
use Rattle.model.specs.State.MachineKind.{plain}
use Rattle.model.specs.Step.{End}
use Rattle.model.specs.Demand3.{wants_cells, plain_run, choice_list}
use Rattle.reduction.specs.Reduction.{places_check}
use Rattle.pair.specs.Pairs.{table_said}
use Rattle.pair.specs.Pairs.LineSaid.{line}
use Rattle.pair.specs.Pairs.PairSaid.{lines}

-- both lines have one end (with its reason), row and steps, and the reduced run used the whole list (rule 10.8)
pub record SameLines (ps : List ℕ) (limit : ℕ) (P : List ℕ) : Type 0 where
  pub end : End
  pub row : ℕ
  pub steps : ℕ
  pub said : table_said ps limit P ≡ lines (line end row steps 0) (line end row steps (length (choice_list ps P limit)))

-- a plain run that does not end for want of cells, whose choices the room holds
abbrev pub LinesMatch : Type 0
LinesMatch =
    (ps : List ℕ) (limit : ℕ) (P : List ℕ) → and_then (table_check plain P) (places_check ps) ≡ Passes → wants_cells (plain_run P limit) ≡ false
    → length (choice_list ps P limit) ≤ 8192 → SameLines ps limit P
