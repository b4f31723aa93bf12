-- By the kind of the loop: with the two choices, or as it stands.
-- Assumes nothing.
use Rattle.row_kinds.proofs.LoopLaws.{loop-plain, loop-first, loop-second, loop-chosen}
use Rattle.evaluators.proofs.OtherAnswers.{answer-no-uint}
use Rattle.row_variables.proofs.loops.loop_at.Goals as goal

pub returns-in_default : goal.returns-in_default
returns-in_default c =
    let g = c.args in
    let e = g.inputs.now in
    loop-first e.own.now e.machine.now.numbers e.list.now e.machine.now.row g.row g.x g.y g.depth g.again g.at c.requires
    c.if-class.true c.class_in.ensures _ c.choice_in-p.ensures (answer-no-uint _ c.in_default.not-Uint) c.lost.ensures

pub returns-in_default-q : goal.returns-in_default-q
returns-in_default-q c =
    let g = c.args in
    let e = g.inputs.now in
    loop-second e.own.now e.machine.now.numbers e.list.now e.machine.now.row g.row g.x g.y g.depth g.again g.at c.requires
    c.if-class.true c.class_in.ensures _ c.choice_in-p.ensures c.in-Uint.is
    c.class_in-then-class.ensures _ c.choice_in-q.ensures (answer-no-uint _ c.in_default-q.not-Uint) c.lost-in_default-q.ensures

pub returns-then-class : goal.returns-then-class
returns-then-class c =
    let g = c.args in
    let e = g.inputs.now in
    loop-chosen e.own.now e.machine.now.numbers e.list.now e.machine.now.row g.row g.x g.y g.depth g.again g.at c.requires
    c.if-class.true c.class_in.ensures _ c.choice_in-p.ensures c.in-Uint.is
    c.class_in-then-class.ensures _ c.choice_in-q.ensures c.in-Uint-q.is c.entry.ensures

pub returns : goal.returns
returns c =
    let g = c.args in
    let e = g.inputs.now in
    loop-plain e.own.now e.machine.now.numbers e.list.now e.machine.now.row g.row g.x g.y g.depth g.again g.at c.requires
    c.if-class.false c.entry-2.ensures
