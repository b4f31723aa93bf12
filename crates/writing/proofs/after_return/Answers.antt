-- By the law of the machine after it.
-- Assumes nothing.
use Rattle.machine.proofs.StateLaws.{returned-state}
use Rattle.writing.proofs.after_return.Goals as goal

pub returns : goal.returns
returns c cells = rw c.resume.ensures (returned-state _ _ _ cells c.give_back-back.ensures)
