-- By what the operands gave.
-- Assumes nothing.
use mathlib.Core.Path.{refl}
use Rattle.row_kinds.proofs.WriteLaws.{store-first, store-second, store_both}
use Rattle.evaluators.proofs.OtherAnswers.{answer-no-pointer, answer-no-uint}
use Rattle.row_moves.proofs.stored.Goals as goal

pub returns-in_default : goal.returns-in_default
returns-in_default c k stack =
    let g = c.args in
    let e = g.inputs.now in
    let m = e.machine.now in
    store-first e.own.now stack e.list.now m e.cells.now g.tracking g.a g.b k g.at _ c.pointer_at-x.ensures
    (answer-no-pointer _ c.in_default.not-Pointer) c.lost.ensures

pub returns-in_default-y : goal.returns-in_default-y
returns-in_default-y c k stack =
    let g = c.args in
    let e = g.inputs.now in
    let m = e.machine.now in
    store-second e.own.now stack e.list.now m e.cells.now g.tracking g.a g.b k g.at _
    c.pointer_at-x.ensures c.in-Pointer.is _
    c.uint_at-y.ensures (answer-no-uint _ c.in_default-y.not-Uint) c.lost-in_default-y.ensures

pub returns : goal.returns
returns c k stack =
    let g = c.args in
    let e = g.inputs.now in
    let m = e.machine.now in
    store_both e.own.now stack e.list.now m e.cells.now g.tracking g.a g.b k g.at _
    c.pointer_at-x.ensures
    c.in-Pointer.is _
    c.uint_at-y.ensures _ refl c.in-Uint.is c.pointed-target.ensures
    c.target_gets.ensures
