-- By what the load came to, how the array is held, and the place.
-- Assumes nothing.
use Rattle.recording.proofs.RecordLaws.{cell-none, cell-kept, cell-pushed, cell_free}
use Rattle.evaluators.proofs.OtherAnswers.{answer-no-uint}
use Rattle.recording.proofs.leaves.record_cell.Goals as goal

pub returns-in_default : goal.returns-in_default
returns-in_default c = cell-none _ _ _ _ _ _ c.cell-x.ensures _ (answer-no-uint _ c.in_default.not-Uint) c.placed.ensures

pub returns-then-is_place : goal.returns-then-is_place
returns-then-is_place c =
    cell-kept _ _ _ _ _ _ c.cell-x.ensures c.in-Uint.is _ c.is_held.ensures c.if-is_held.true
    c.is_place.ensures c.if-is_place.true

pub returns-then-is_held : goal.returns-then-is_held
returns-then-is_held c =
    cell-pushed _ _ _ _ _ _ c.cell-x.ensures c.in-Uint.is _ _ _ c.is_held.ensures c.if-is_held.true
    c.is_place.ensures c.if-is_place.false c.push-next.ensures

pub returns : goal.returns
returns c =
    cell_free _ _ _ _ _ _ c.cell-x.ensures c.in-Uint.is _ c.is_held.ensures c.if-is_held.false
