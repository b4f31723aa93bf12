-- By the law of the machine after it.
-- Assumes nothing.
use Rattle.machine.proofs.StateLaws.{called-state}
use Rattle.writing.proofs.after_call.Goals as goal

pub returns : goal.returns
returns c cells = rw c.begin.ensures (called-state _ _ _ cells c.call-next.ensures)
