-- By what the operands gave: p and q are the places after the pointer and the value.
-- Assumes nothing.
use mathlib.Core.Path.{refl}
use Rattle.recording_rows.proofs.LoopRowLaws.{store-no-place, store-no-value, store-recorded}
use Rattle.evaluators.proofs.OtherAnswers.{answer-no-pointer, answer-no-uint}
use Rattle.recording_rows.proofs.record_store.Goals as goal

pub returns-in_default : goal.returns-in_default
returns-in_default c k =
    let g = c.args in
    let e = g.inputs.now in
    let m = e.machine.now in
    store-no-place e.own.now m e.cells.now g.held.now c.requires.2 g.a g.b k _ _ _ c.record_pointer-x.ensures
    (answer-no-pointer _ c.in_default.not-Pointer) c.lost.ensures

pub returns-in_default-y : goal.returns-in_default-y
returns-in_default-y c k =
    let g = c.args in
    let e = g.inputs.now in
    let m = e.machine.now in
    store-no-value e.own.now m e.cells.now g.held.now c.requires.2 g.a g.b k _ _ _ c.record_pointer-x.ensures
    c.in-Pointer.is _ _ c.record_uint-y.ensures (answer-no-uint _ c.in_default-y.not-Uint) c.lost-in_default-y.ensures

pub returns : goal.returns
returns c k =
    let g = c.args in
    let e = g.inputs.now in
    let m = e.machine.now in
    store-recorded e.own.now m e.cells.now g.held.now c.requires.2 g.a g.b k _ _ _ c.record_pointer-x.ensures
    c.in-Pointer.is _ _ c.record_uint-y.ensures _ _ refl c.in-Uint.is c.pointed-target.ensures c.target_gets.ensures
