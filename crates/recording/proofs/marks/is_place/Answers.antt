-- One place after the other.
-- Assumes nothing.
use mathlib.Core.Path.{◌≡◌, refl}
use mathlib.Core.Bool.{Bool, true, false}
use Rattle.std.specs.Prelude.{if◌then◌else◌}
use borrow.Author.Tests.{eq-eqb, ne_eqb}
use Rattle.model.specs.Class.{tracked}
use Rattle.recording.proofs.marks.is_place.Goals as goal

pub returns-then-own-v : goal.returns-then-own-v
unfolding tracked
returns-then-own-v c = rw (eq-eqb _ _ c.if-own-v.true)

pub returns-else-own-v : goal.returns-else-own-v
unfolding tracked
returns-else-own-v c = rw (ne_eqb _ _ c.if-own-v.false) (itself _)
  where
    itself : (b : Bool) → b ≡ (if b then true else false)
    itself true = refl
    itself false = refl
