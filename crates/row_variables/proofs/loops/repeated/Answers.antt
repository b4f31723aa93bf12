-- The innermost loop, its start and 1, then the loop of its row by kind.
-- Assumes nothing.
use Prim.Native.Nat.{suc, ◌-◌}
use native.Mathlib.Omega.{arith}
use mathlib.Core.Path.{◌≡◌, sym}
use mathlib.Core.Bool.{true, false}
use Rattle.machine.specs.CodeMoves.{columns}
use Rattle.row_kinds.proofs.LoopLaws.{no-loop, repeat-fits, repeat-none, repeat-ends, repeat-loop, repeat-other}
use borrow.Author.Rules.{rules}
use Rattle.evaluators.proofs.OtherAnswers.{answer-no-uint}
use Rattle.row_variables.proofs.loops.repeated.Goals as goal

pub returns-then-open-eq0 : goal.returns-then-open-eq0
returns-then-open-eq0 c a b k count stack bs fs ls hs cells =
    let g = c.args in
    let i = g.inputs.now in
    let here = i.machine.now in
    let m = columns here.row here.numbers bs here.«open» here.loop_rows here.starts here.ends count fs ls hs in
    repeat-none i.own.now stack i.list.now m cells a b k g.at c.if-open-eq0.true

pub returns-in_default : goal.returns-in_default
returns-in_default c a b k count stack bs fs ls hs cells =
    let g = c.args in
    let i = g.inputs.now in
    let here = i.machine.now in
    let m = columns here.row here.numbers bs here.«open» here.loop_rows here.starts here.ends count fs ls hs in
    let d = m.«open» - 1 in
    let e : m.«open» ≡ suc d = omega (arith, c.if-open-eq0.false) in
    repeat-ends i.own.now stack i.list.now m cells a b k g.at d e _ c.next_start-x.ensures (answer-no-uint _ c.in_default.not-Uint)
    c.lost.ensures

pub returns-in-Loop : goal.returns-in-Loop
returns-in-Loop c a b k count stack bs fs ls hs cells =
    let g = c.args in
    let i = g.inputs.now in
    let here = i.machine.now in
    let m = columns here.row here.numbers bs here.«open» here.loop_rows here.starts here.ends count fs ls hs in
    let d = m.«open» - 1 in
    let e : m.«open» ≡ suc d = omega (arith, c.if-open-eq0.false) in
    repeat-loop i.own.now stack i.list.now m cells a b k g.at d e _
    c.next_start-x.ensures c.in-Uint.is
    c.row_word-kind.ensures false (sym c.in-Loop.ensures)
    (c.loop_at.ensures.loops m.«open» m.count stack m.bases m.loop_rows m.starts m.ends m.firsts m.lengths m.shapes cells
    c.requires.loop_rows c.requires.starts c.requires.ends)

pub returns-in-ClassLoop : goal.returns-in-ClassLoop
returns-in-ClassLoop c a b k count stack bs fs ls hs cells =
    let g = c.args in
    let i = g.inputs.now in
    let here = i.machine.now in
    let m = columns here.row here.numbers bs here.«open» here.loop_rows here.starts here.ends count fs ls hs in
    let d = m.«open» - 1 in
    let e : m.«open» ≡ suc d = omega (arith, c.if-open-eq0.false) in
    repeat-loop i.own.now stack i.list.now m cells a b k g.at d e _
    c.next_start-x.ensures c.in-Uint.is
    c.row_word-kind.ensures true (sym c.in-ClassLoop.ensures)
    (c.loop_at-in-ClassLoop.ensures.loops m.«open» m.count stack m.bases m.loop_rows m.starts m.ends m.firsts m.lengths m.shapes cells
    c.requires.loop_rows c.requires.starts c.requires.ends)

pub returns-in_default-from : goal.returns-in_default-from
returns-in_default-from c a b k count stack bs fs ls hs cells =
    let g = c.args in
    let i = g.inputs.now in
    let here = i.machine.now in
    let m = columns here.row here.numbers bs here.«open» here.loop_rows here.starts here.ends count fs ls hs in
    let d = m.«open» - 1 in
    let e : m.«open» ≡ suc d = omega (arith, c.if-open-eq0.false) in
    repeat-other i.own.now stack i.list.now m cells a b k g.at d e _
    c.next_start-x.ensures c.in-Uint.is c.row_word-kind.ensures
    (no-loop c.from.result _ c.in_default-from.not-Loop c.in_default-from.not-ClassLoop c.from.ensures)

pub loop_at-requires : goal.loop_at-requires
loop_at-requires c =
    let i = c.args.inputs.now in
    repeat-fits i.own.now i.machine.now c.requires (c.if-open-eq0.false) c.row_word-kind.ensures false (sym c.in-Loop.ensures)

pub loop_at-requires-in-ClassLoop : goal.loop_at-requires-in-ClassLoop
loop_at-requires-in-ClassLoop c =
    let i = c.args.inputs.now in
    repeat-fits i.own.now i.machine.now c.requires (c.if-open-eq0.false) c.row_word-kind.ensures true (sym c.in-ClassLoop.ensures)
