-- By what the operands gave: p, q and r are the places after the start, the end and the numbers of the loop.
-- Assumes nothing.
use Rattle.recording_rows.proofs.LoopRowLaws.{loop-no-start, loop-no-end, loop-recorded}
use Rattle.evaluators.proofs.OtherAnswers.{answer-no-uint}
use Rattle.recording_rows.proofs.record_loop.Goals as goal

pub returns-in_default : goal.returns-in_default
returns-in_default c a lr ls le =
    let g = c.args in
    let e = g.inputs.now in
    let m = e.machine.now in
    loop-no-start e.own.now m e.cells.now g.held.now c.requires.2 a g.b g.c _ _ _ c.record_uint-x.ensures
    (answer-no-uint _ c.in_default.not-Uint) c.lost.ensures

pub returns-in_default-y : goal.returns-in_default-y
returns-in_default-y c a lr ls le =
    let g = c.args in
    let e = g.inputs.now in
    let m = e.machine.now in
    loop-no-end e.own.now m e.cells.now g.held.now c.requires.2 a g.b g.c _ _ _ c.record_uint-x.ensures
    c.in-Uint.is _ _ c.record_uint-y.ensures (answer-no-uint _ c.in_default-y.not-Uint) c.lost-in_default-y.ensures

pub returns : goal.returns
returns c a lr ls le =
    let g = c.args in
    let e = g.inputs.now in
    let m = e.machine.now in
    loop-recorded e.own.now m e.cells.now g.held.now c.requires.2 a g.b g.c _ _ _ c.record_uint-x.ensures
    c.in-Uint.is _ _ c.record_uint-y.ensures _ _ c.requires.1 lr ls le c.in-Uint-y.is
    c.record_bounds-n.ensures c.entry.ensures
