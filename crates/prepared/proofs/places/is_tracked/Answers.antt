-- By the pair where the copy says that there are places, and by none else.
-- Assumes nothing.
use mathlib.Core.Path.{◌≡◌, refl}
use mathlib.Core.Bool.{Bool, true, false, cond}
use borrow.Author.Tests.{eq-eqb, ne_eqb}
use Rattle.std.specs.Prelude.{if◌then◌else◌}
use Rattle.model.specs.Class.{tracked}
use Rattle.prepared.specs.Own.{places_of}
use Rattle.prepared.proofs.places.is_tracked.Goals as goal

chosen : (b : Bool) → b ≡ cond false true (if b then true else false)
chosen true = refl
chosen false = refl

pub returns-then-own-v : goal.returns-then-own-v
unfolding places_of tracked
returns-then-own-v c = rw (eq-eqb _ _ c.if-own-eq1.true, eq-eqb _ _ c.if-own-v.true)

pub returns-else-own-v : goal.returns-else-own-v
unfolding places_of tracked
returns-else-own-v c = rw (eq-eqb _ _ c.if-own-eq1.true, ne_eqb _ _ c.if-own-v.false) (chosen _)

pub returns-else-own-eq1 : goal.returns-else-own-eq1
unfolding places_of tracked
returns-else-own-eq1 c = rw (ne_eqb _ _ c.if-own-eq1.false)
