-- By the kind and the mark of the declaration.
-- Assumes nothing.
use Rattle.model.specs.Table.{marked}
use Rattle.recording.proofs.marks.marked_uint.Goals as goal

pub returns : goal.returns
unfolding marked
returns c = rw (c.word_or_zero-kind.ensures, c.word_or_zero-mark.ensures)
