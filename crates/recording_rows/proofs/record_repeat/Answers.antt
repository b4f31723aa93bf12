-- The innermost loop, its start and 1, then the loop of its row: p and q are the places after the sum and after the test of the kind.
-- Assumes nothing.
use Prim.Native.Nat.{suc, ◌-◌}
use native.Mathlib.Omega.{arith}
use mathlib.Core.Path.{◌≡◌, sym}
use Rattle.recording_rows.proofs.LoopRowLaws.{repeat-nothing, repeat-no-start, repeat-recorded, repeat-no-loop}
use mathlib.Core.Bool.{false}
use Rattle.row_kinds.proofs.LoopLaws as loops
use Rattle.evaluators.proofs.OtherAnswers.{answer-no-uint}
use Rattle.recording_rows.proofs.record_repeat.Goals as goal

pub returns-then-open-eq0 : goal.returns-then-open-eq0
returns-then-open-eq0 c a b k held =
    let g = c.args in
    let e = g.inputs.now in
    let m = e.machine.now in
    repeat-nothing e.own.now m e.cells.now held c.requires.1 a b k _ c.if-open-eq0.true

pub returns-in_default : goal.returns-in_default
returns-in_default c a b k held =
    let g = c.args in
    let e = g.inputs.now in
    let m = e.machine.now in
    let d = m.«open» - 1 in
    let inside : m.«open» ≡ suc d = omega (arith, c.if-open-eq0.false) in
    repeat-no-start e.own.now m e.cells.now held c.requires.1 a b k _ d inside _ c.next_start-x.ensures (answer-no-uint _ c.in_default.not-Uint) c.lost.ensures

pub returns-in_default-from : goal.returns-in_default-from
returns-in_default-from c a b k held =
    let g = c.args in
    let e = g.inputs.now in
    let m = e.machine.now in
    let d = m.«open» - 1 in
    let inside : m.«open» ≡ suc d = omega (arith, c.if-open-eq0.false) in
    repeat-no-loop e.own.now m e.cells.now held c.requires.1 a b k _ d inside _ c.next_start-x.ensures c.in-Uint.is
    c.row_word-kind.ensures c.from.result c.from.ensures c.in_default-from.not-Loop

pub returns : goal.returns
returns c a b k held =
    let g = c.args in
    let e = g.inputs.now in
    let m = e.machine.now in
    let d = m.«open» - 1 in
    let inside : m.«open» ≡ suc d = omega (arith, c.if-open-eq0.false) in
    repeat-recorded e.own.now m e.cells.now held c.requires.1 a b k _ d inside _ c.next_start-x.ensures c.in-Uint.is
    c.row_word-kind.ensures _ _ c.requires.0 (sym c.in-Loop.ensures) c.record_bounds-n.ensures c.entry.ensures

pub entry-requires : goal.entry-requires
entry-requires c =
    let e = c.args.inputs.now in
    let fits = loops.repeat-fits e.own.now e.machine.now c.requires.0 c.if-open-eq0.false c.row_word-kind.ensures false (sym c.in-Loop.ensures) in
    (fits.decls, fits.rows, fits.here, fits.row)
