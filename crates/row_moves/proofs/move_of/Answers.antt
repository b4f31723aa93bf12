-- Past the last row a return of 0, else the row by its kind.
-- Assumes nothing.
use Rattle.row_moves.proofs.StepLaws.{step_past}
use Rattle.row_moves.proofs.move_of.Goals as goal

pub returns-then-inputs : goal.returns-then-inputs
returns-then-inputs c map stack ed calling =
    let g = c.args in
    let e = g.inputs.now in
    let m = e.machine.now in
    step_past e.own.now map stack m e.cells.now e.list.now g.at calling c.if-inputs.true
