-- The lines are copied into zeros, what the run is told is set, and then the forms are.
-- Assumes nothing.
use Rattle.prepared.proofs.OwnLaws.{laid_out}
use Rattle.prepared.proofs.own.lay_out.Goals as goal

pub returns : goal.returns
returns c =
    let lines = c.copy_lines.ensures in
    laid_out _ c.args.f c.requires.0 c.requires.1 lines c.tell.ensures
    c.set_forms.ensures
