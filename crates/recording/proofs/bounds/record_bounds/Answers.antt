-- By the mark of the iterator.
-- Assumes nothing.
use mathlib.Core.Path.{◌∙◌}
use Rattle.recording.proofs.LoopNumberLaws.{bounds-marked, bounds-unmarked}
use Rattle.recording.proofs.bounds.record_bounds.Goals as goal

pub returns-then-marked_uint : goal.returns-then-marked_uint
returns-then-marked_uint c =
    bounds-marked _ _ _ _ _ _ (c.wide-a.ensures ∙ c.row_word.ensures)
    c.marked_uint.ensures _ _ c.if-marked_uint.true c.push-next.ensures c.push.ensures

pub returns : goal.returns
returns c =
    bounds-unmarked _ _ _ _ _ _ (c.wide-a.ensures ∙ c.row_word.ensures)
    c.marked_uint.ensures c.if-marked_uint.false
