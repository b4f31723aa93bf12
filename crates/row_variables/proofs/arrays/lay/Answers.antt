-- By whether the pointer takes the array and whether there is room.
-- Assumes nothing.
use mathlib.Core.Path.{sym, ◌∙◌}
use Rattle.row_kinds.specs.CodeRows.{lay_of}
use Rattle.row_variables.proofs.arrays.lay.Goals as goal

pub returns-then-lacks_room : goal.returns-then-lacks_room
unfolding lay_of
returns-then-lacks_room c =
    rw (
      rw c.number_of.ensures at (sym c.fits.ensures ∙ c.if-fits.true),
      ← c.used_in-used.ensures.0,
      ← c.size_for-size.ensures,
      sym c.lacks_room.ensures ∙ c.if-lacks_room.true,
    )

pub returns-then-fits : goal.returns-then-fits
unfolding lay_of
returns-then-fits c =
    rw (
      rw c.number_of.ensures at (sym c.fits.ensures ∙ c.if-fits.true),
      ← c.used_in-used.ensures.0,
      ← c.size_for-size.ensures,
      sym c.lacks_room.ensures ∙ c.if-lacks_room.false,
    )

pub returns : goal.returns
unfolding lay_of
returns c = rw (rw c.number_of.ensures at (sym c.fits.ensures ∙ c.if-fits.false))
