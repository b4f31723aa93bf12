-- By the row's kind: each row's own law, at the words that were read.
-- Assumes nothing.
use mathlib.Core.Path.{refl, sym, ◌∙◌}
use mathlib.Core.Bool.{true, false}
use mathlib.Core.List.{[]}
use lib.ListN.{drop}
use Rattle.model.specs.Table.Row.{assign, store, assert, assume, array, loop, loop_end, reduced_store, reduced_array, class_loop}
use Rattle.row_kinds.proofs.PutLaws.{asserts, assumes}
use Rattle.row_kinds.proofs.LayLaws.{lays-plain, lays-reduced}
use Rattle.row_kinds.proofs.WriteLaws.{works-by}
use Rattle.row_moves.proofs.StepLaws.{step_of, step_skip, step-none, step-opens, step-ends, step-returns, step-calls}
use borrow.Author.Rules.{rules}
use Rattle.row_moves.proofs.row_move.Goals as goal

pub looped-requires : goal.looped-requires
looped-requires c =
    let g = c.args in
    let e = g.inputs.now in
    let m = e.machine.now in (
      c.requires.0.count,
      step-opens e.own.now [] m e.cells.now e.list.now g.at c.requires.1
          c.row_word-kind.ensures c.row_word-a.ensures c.row_word-b.ensures c.row_word-c.ensures
          false (sym c.in-Loop.ensures) c.requires.0,
    )

pub looped-requires-in-ClassLoop : goal.looped-requires-in-ClassLoop
looped-requires-in-ClassLoop c =
    let g = c.args in
    let e = g.inputs.now in
    let m = e.machine.now in (
      c.requires.0.count,
      step-opens e.own.now [] m e.cells.now e.list.now g.at c.requires.1
          c.row_word-kind.ensures c.row_word-a.ensures c.row_word-b.ensures c.row_word-c.ensures
          true (sym c.in-ClassLoop.ensures) c.requires.0,
    )

pub returns-in-Skip : goal.returns-in-Skip
returns-in-Skip c map stack ed calling =
    let g = c.args in
    let e = g.inputs.now in
    let m = e.machine.now in
    step_skip e.own.now stack m e.cells.now e.list.now g.at c.requires.1
    c.row_word-kind.ensures c.row_word-a.ensures c.row_word-b.ensures c.row_word-c.ensures
    (sym c.in-Skip.ensures)

pub returns-in-Assign : goal.returns-in-Assign
returns-in-Assign c map stack ed calling =
    let g = c.args in
    let e = g.inputs.now in
    let m = e.machine.now in
    step_of e.own.now stack m e.cells.now e.list.now g.at c.requires.1
    c.row_word-kind.ensures c.row_word-a.ensures c.row_word-b.ensures c.row_word-c.ensures
    assign (sym c.in-Assign.ensures) refl
    (c.assigned.ensures m.row m.«open» c.row_word-c.result stack m.loop_rows m.starts m.ends)

pub returns-in-Store : goal.returns-in-Store
returns-in-Store c map stack ed calling =
    let g = c.args in
    let e = g.inputs.now in
    let m = e.machine.now in
    step_of e.own.now stack m e.cells.now e.list.now g.at c.requires.1
    c.row_word-kind.ensures c.row_word-a.ensures c.row_word-b.ensures c.row_word-c.ensures
    store (sym c.in-Store.ensures) refl (c.stored.ensures c.row_word-c.result stack)

pub returns-in-Assert : goal.returns-in-Assert
returns-in-Assert c map stack ed calling =
    let g = c.args in
    let e = g.inputs.now in
    let m = e.machine.now in
    step_of e.own.now stack m e.cells.now e.list.now g.at c.requires.1
    c.row_word-kind.ensures c.row_word-a.ensures c.row_word-b.ensures c.row_word-c.ensures
    assert (sym c.in-Assert.ensures) refl (works-by (asserts e.own.now stack m e.cells.now e.list.now
    c.row_word-a.result c.row_word-b.result c.row_word-c.result (drop g.at e.list.now) c.bool_at.result
    c.bool_at.ensures) c.tested.ensures)

pub returns-in-Assume : goal.returns-in-Assume
returns-in-Assume c map stack ed calling =
    let g = c.args in
    let e = g.inputs.now in
    let m = e.machine.now in
    step_of e.own.now stack m e.cells.now e.list.now g.at c.requires.1
    c.row_word-kind.ensures c.row_word-a.ensures c.row_word-b.ensures c.row_word-c.ensures
    assume (sym c.in-Assume.ensures) refl (works-by (assumes e.own.now stack m e.cells.now e.list.now
    c.row_word-a.result c.row_word-b.result c.row_word-c.result (drop g.at e.list.now) c.bool_at-in-Assume.result
    c.bool_at-in-Assume.ensures) c.tested-in-Assume.ensures)

pub returns-in-Array : goal.returns-in-Array
returns-in-Array c map stack ed calling =
    let g = c.args in
    let e = g.inputs.now in
    let m = e.machine.now in
    step_of e.own.now stack m e.cells.now e.list.now g.at c.requires.1
    c.row_word-kind.ensures c.row_word-a.ensures c.row_word-b.ensures c.row_word-c.ensures
    array (sym c.in-Array.ensures) refl
    (works-by (lays-plain e.own.now stack m e.cells.now e.list.now c.requires.0.decls c.requires.0.sized.numbers
    c.requires.0.sized.bases c.requires.0.sized.firsts c.requires.0.sized.lengths c.requires.0.sized.shapes
    c.row_word-a.result c.row_word-b.result c.row_word-c.result (drop g.at e.list.now) c.uint_at.result
    c.uint_at.ensures) c.laid.ensures)

pub returns-in-Loop : goal.returns-in-Loop
returns-in-Loop c map stack ed calling =
    let g = c.args in
    let e = g.inputs.now in
    let m = e.machine.now in
    step_of e.own.now stack m e.cells.now e.list.now g.at c.requires.1
    c.row_word-kind.ensures c.row_word-a.ensures c.row_word-b.ensures c.row_word-c.ensures
    loop (sym c.in-Loop.ensures) refl (c.looped.ensures c.row_word-a.result stack
    c.requires.0.sized.rows c.requires.0.sized.starts c.requires.0.sized.ends)

pub returns-in-LoopEnd : goal.returns-in-LoopEnd
returns-in-LoopEnd c map stack ed calling =
    let g = c.args in
    let e = g.inputs.now in
    let m = e.machine.now in
    step_of e.own.now stack m e.cells.now e.list.now g.at c.requires.1
    c.row_word-kind.ensures c.row_word-a.ensures c.row_word-b.ensures c.row_word-c.ensures
    loop_end (sym c.in-LoopEnd.ensures) refl
    (c.repeated.ensures c.row_word-a.result c.row_word-b.result c.row_word-c.result m.count stack m.bases m.firsts m.lengths m.shapes e.cells.now)

pub returns-in-ReducedStore : goal.returns-in-ReducedStore
returns-in-ReducedStore c map stack ed calling =
    let g = c.args in
    let e = g.inputs.now in
    let m = e.machine.now in
    step_of e.own.now stack m e.cells.now e.list.now g.at c.requires.1
    c.row_word-kind.ensures c.row_word-a.ensures c.row_word-b.ensures c.row_word-c.ensures
    reduced_store (sym c.in-ReducedStore.ensures) refl
    (c.stored-in-ReducedStore.ensures c.row_word-c.result stack)

pub returns-in-ReducedArray : goal.returns-in-ReducedArray
returns-in-ReducedArray c map stack ed calling =
    let g = c.args in
    let e = g.inputs.now in
    let m = e.machine.now in
    step_of e.own.now stack m e.cells.now e.list.now g.at c.requires.1
    c.row_word-kind.ensures c.row_word-a.ensures c.row_word-b.ensures c.row_word-c.ensures
    reduced_array (sym c.in-ReducedArray.ensures) refl
    (works-by (lays-reduced e.own.now stack m e.cells.now e.list.now c.requires.0.decls c.requires.0.sized.numbers
    c.requires.0.sized.bases c.requires.0.sized.firsts c.requires.0.sized.lengths c.requires.0.sized.shapes
    c.row_word-a.result c.row_word-b.result c.row_word-c.result (drop g.at e.list.now) c.uint_at-in-ReducedArray.result
    c.uint_at-in-ReducedArray.ensures) c.laid-in-ReducedArray.ensures)

pub returns-in-ClassLoop : goal.returns-in-ClassLoop
returns-in-ClassLoop c map stack ed calling =
    let g = c.args in
    let e = g.inputs.now in
    let m = e.machine.now in
    step_of e.own.now stack m e.cells.now e.list.now g.at c.requires.1
    c.row_word-kind.ensures c.row_word-a.ensures c.row_word-b.ensures c.row_word-c.ensures
    class_loop (sym c.in-ClassLoop.ensures) refl (c.looped-in-ClassLoop.ensures c.row_word-a.result stack
    c.requires.0.sized.rows c.requires.0.sized.starts c.requires.0.sized.ends)

pub returns-in-Procedure : goal.returns-in-Procedure
returns-in-Procedure c map stack ed calling =
    let g = c.args in
    let e = g.inputs.now in
    let m = e.machine.now in
    step-ends e.own.now stack m e.cells.now e.list.now g.at c.requires.1
    c.row_word-kind.ensures c.row_word-a.ensures c.row_word-b.ensures c.row_word-c.ensures
    map calling (sym c.in-Procedure.ensures)

pub returns-in-Return : goal.returns-in-Return
returns-in-Return c map stack ed calling =
    let g = c.args in
    let e = g.inputs.now in
    let m = e.machine.now in
    works-by (step-returns e.own.now stack m e.cells.now e.list.now g.at c.requires.1
    c.row_word-kind.ensures c.row_word-a.ensures c.row_word-b.ensures c.row_word-c.ensures
    map calling (sym c.in-Return.ensures) c.uint_at-in-Return.result c.uint_at-in-Return.ensures) c.returned.ensures

pub returns-in-Call : goal.returns-in-Call
returns-in-Call c map stack ed calling =
    let g = c.args in
    let e = g.inputs.now in
    let m = e.machine.now in
    works-by (step-calls e.own.now stack m e.cells.now e.list.now g.at c.requires.1
    c.row_word-kind.ensures c.row_word-a.ensures c.row_word-b.ensures c.row_word-c.ensures
    map calling (sym c.in-Call.ensures) c.requires.0 g.depth c.row_word.result ed
    (c.row_word.ensures ∙ sym c.row_word-a.ensures) c.uint_at-in-Call.result c.uint_at-in-Call.ensures)
    c.called.ensures

pub returns-in-Unknown : goal.returns-in-Unknown
returns-in-Unknown c map stack ed calling =
    let g = c.args in
    let e = g.inputs.now in
    let m = e.machine.now in
    step-none e.own.now stack m e.cells.now e.list.now g.at c.requires.1
    c.row_word-kind.ensures c.row_word-a.ensures c.row_word-b.ensures c.row_word-c.ensures (sym c.in-Unknown.ensures)
