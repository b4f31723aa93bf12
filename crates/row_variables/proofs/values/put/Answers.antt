-- By whether the variable takes the value.
-- Assumes nothing.
use mathlib.Core.Path.{sym, ◌∙◌}
use Rattle.row_kinds.specs.CodeRows.{put_of}
use Rattle.row_variables.proofs.values.put.Goals as goal

pub returns-then-fits : goal.returns-then-fits
unfolding put_of
returns-then-fits c = rw (← c.number_of.ensures, sym c.fits.ensures ∙ c.if-fits.true)

pub returns : goal.returns
unfolding put_of
returns c = rw (← c.number_of.ensures, sym c.fits.ensures ∙ c.if-fits.false)
