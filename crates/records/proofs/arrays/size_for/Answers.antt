-- The reduced machine has the pair, the plain one no place.
-- Assumes nothing.
use Rattle.model.specs.Class.{class}
use Rattle.prepared.specs.View.{places}
use Rattle.records.proofs.arrays.size_for.Goals as goal

pub returns-then-f : goal.returns-then-f
unfolding places
returns-then-f c = rw (c.if-not-reduced.false, c.if-f.true) c.class_of.ensures

pub returns-else-f : goal.returns-else-f
unfolding places class
returns-else-f c = rw (c.if-not-reduced.false, c.if-f.false)
