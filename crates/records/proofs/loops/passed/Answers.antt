-- By how the row nests.
-- Assumes nothing.
use Rattle.records.proofs.StandLaws.{walk-met}
use Rattle.records.proofs.loops.passed.Goals as goal

pub returns-in-Opens : goal.returns-in-Opens
returns-in-Opens c = rw c.in-Opens.is (walk-met _ _ _ _ _ c.if-closed-eq0.true c.met.ensures)
