-- A variable that is there, by what it holds.
-- Assumes nothing.
use Rattle.row_kinds.proofs.PutLaws.{fits_out, fits-there}
use Rattle.row_variables.proofs.values.fits.Goals as goal

pub returns-then-inputs-a : goal.returns-then-inputs-a
returns-then-inputs-a c = fits_out _ _ _ _ c.if-inputs-a.true

pub returns : goal.returns
returns c = fits-there _ _ _ _ c.if-inputs-a.false c.form_at-held.ensures c.held_form.ensures
