-- Past the last row a return of 0, else the row by its kind.
-- Assumes nothing.
use Rattle.recording_rows.proofs.RowLaws.{records-past}
use Rattle.recording_rows.proofs.recorded_move.Goals as goal

pub returns-then-inputs : goal.returns-then-inputs
returns-then-inputs c map stack ed calling =
    let g = c.args in
    let e = g.inputs.now in
    let m = e.machine.now in
    records-past e.own.now map stack m e.cells.now g.held.now g.out.now calling c.if-inputs.true
