-- By what the operands gave.
-- Assumes nothing.
use Rattle.row_kinds.proofs.LoopLaws.{open-first, open-second, open-both}
use Rattle.evaluators.proofs.OtherAnswers.{answer-no-uint}
use Rattle.row_moves.proofs.looped.Goals as goal

pub returns-in_default : goal.returns-in_default
returns-in_default c a stack lr ls le =
    let g = c.args in
    let e = g.inputs.now in
    let m = e.machine.now in
    open-first e.own.now stack e.list.now m e.cells.now g.class a g.b g.c g.at _
    c.uint_at-x.ensures (answer-no-uint _ c.in_default.not-Uint) c.lost.ensures

pub returns-in_default-y : goal.returns-in_default-y
returns-in_default-y c a stack lr ls le =
    let g = c.args in
    let e = g.inputs.now in
    let m = e.machine.now in
    open-second e.own.now stack e.list.now m e.cells.now g.class a g.b g.c g.at _
    c.uint_at-x.ensures c.in-Uint.is _
    c.uint_at-y.ensures (answer-no-uint _ c.in_default-y.not-Uint) c.lost-in_default-y.ensures

pub returns : goal.returns
returns c a stack lr ls le =
    let g = c.args in
    let e = g.inputs.now in
    let m = e.machine.now in
    open-both e.own.now stack e.list.now m e.cells.now g.class a g.b g.c g.at _
    c.uint_at-x.ensures c.in-Uint.is _
    c.uint_at-y.ensures c.in-Uint-y.is
    (c.loop_at.ensures.loops m.«open» m.count stack m.bases m.loop_rows m.starts m.ends m.firsts m.lengths m.shapes e.cells.now lr ls le)
