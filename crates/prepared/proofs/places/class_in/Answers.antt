-- By the pair where the copy says that there are places, and by none else.
-- Assumes nothing.
use borrow.Author.Tests.{eq-eqb, ne_eqb}
use Rattle.model.specs.Class.{class}
use Rattle.prepared.specs.Own.{places_of}
use Rattle.prepared.proofs.places.class_in.Goals as goal

pub returns-then-own-eq1 : goal.returns-then-own-eq1
unfolding places_of
returns-then-own-eq1 c = rw (eq-eqb _ _ c.if-own-eq1.true) c.class_of.ensures

pub returns : goal.returns
unfolding places_of class
returns c = rw (ne_eqb _ _ c.if-own-eq1.false)
