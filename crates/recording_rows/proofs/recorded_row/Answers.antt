-- By the row's kind: each row's own law, at the words that were read.
-- Assumes nothing.
use Prim.Native.Nat.{ℕ}
use mathlib.Core.Path.{◌≡◌, refl, sym, ◌∙◌}
use mathlib.Core.Bool.{false}
use mathlib.Core.List.{List, []}
use Rattle.model.specs.Table.{Row, row_kind, opens_procedure}
use Rattle.model.specs.Table.Row.{skip, assign, store, assert, assume, array, loop, loop_end}
use Rattle.machine.specs.declared.Machine.{Machine}
use Rattle.machine.specs.declared.Worked.{Worked}
use Rattle.recording_rows.specs.CodeMoves.{RowRecords, StepRecords}
use Rattle.row_moves.proofs.StepLaws.{step-opens}
use Rattle.recording_rows.proofs.RowLaws.{records-step, records-skip, records-none, records-assert, records-assume, records-array}
use Rattle.recording_rows.proofs.RowLaws.{records-ends, records-returns, records-calls}
use Rattle.recording_rows.proofs.recorded_row.Goals as goal
use Rattle.recording_rows.proofs.recorded_row.Goals.{After-wide-c}

-- the machine where the row is read
abbrev now : After-wide-c → Machine
now c = c.args.inputs.now.machine.now

-- a row that goes by its own rule
by-kind : (c : After-wide-c) (stack after : List ℕ) (r : Row) {z : Worked} → row_kind c.row_word-kind.result ≡ r → opens_procedure r ≡ false
    → RowRecords c.args.inputs.now.own.now (now c) c.args.inputs.now.cells.now c.args.held.now r c.wide-a.result c.wide-b.result
    c.wide-c.result z c.args.out.now after
    → StepRecords c.args.inputs.now.own.now stack (now c) c.args.inputs.now.cells.now c.args.held.now z c.args.out.now after
by-kind c stack after r is o h =
    let g = c.args in
    let e = g.inputs.now in
    records-step e.own.now stack (now c) e.cells.now g.held.now g.out.now c.requires.within.1
    c.row_word-kind.ensures (c.wide-a.ensures ∙ c.row_word.ensures) (c.wide-b.ensures ∙ c.row_word-2.ensures)
    (c.wide-c.ensures ∙ c.row_word-3.ensures) after r is o h

pub record_loop-requires : goal.record_loop-requires
record_loop-requires c =
    let g = c.args in
    let e = g.inputs.now in
    let m = now (goal.at.record_loop-requires c).After-wide-c in (
      c.requires.within.0.count,
      step-opens e.own.now [] m e.cells.now [] 0 c.requires.within.1
          c.row_word-kind.ensures (c.wide-a.ensures ∙ c.row_word.ensures) (c.wide-b.ensures ∙ c.row_word-2.ensures)
          (c.wide-c.ensures ∙ c.row_word-3.ensures)
          false (sym c.in-Loop.ensures) c.requires.within.0,
      c.requires.plain,
    )

pub returns-in-Skip : goal.returns-in-Skip
returns-in-Skip c map stack ed calling =
    let g = c.args in
    let e = g.inputs.now in
    let m = now (goal.at.returns-in-Skip c).After-wide-c in
    by-kind (goal.at.returns-in-Skip c).After-wide-c stack _ skip (sym c.in-Skip.ensures) refl
    (records-skip e.own.now m e.cells.now g.held.now g.out.now c.wide-a.result c.wide-b.result c.wide-c.result)

pub returns-in-Assign : goal.returns-in-Assign
returns-in-Assign c map stack ed calling =
    by-kind (goal.at.returns-in-Assign c).After-wide-c stack _ assign (sym c.in-Assign.ensures) refl
    (c.record_assign.ensures c.wide-c.result)

pub returns-in-Store : goal.returns-in-Store
returns-in-Store c map stack ed calling =
    by-kind (goal.at.returns-in-Store c).After-wide-c stack _ store (sym c.in-Store.ensures) refl
    (c.record_store.ensures c.wide-c.result)

pub returns-in-Assert : goal.returns-in-Assert
returns-in-Assert c map stack ed calling =
    let g = c.args in
    let e = g.inputs.now in
    let m = now (goal.at.returns-in-Assert c).After-wide-c in
    by-kind (goal.at.returns-in-Assert c).After-wide-c stack _ assert (sym c.in-Assert.ensures) refl
    (records-assert e.own.now m e.cells.now g.held.now g.out.now _ c.wide-a.result c.wide-b.result c.wide-c.result _ c.record_bool.ensures c.tested.ensures)

pub returns-in-Assume : goal.returns-in-Assume
returns-in-Assume c map stack ed calling =
    let g = c.args in
    let e = g.inputs.now in
    let m = now (goal.at.returns-in-Assume c).After-wide-c in
    by-kind (goal.at.returns-in-Assume c).After-wide-c stack _ assume (sym c.in-Assume.ensures) refl
    (records-assume e.own.now m e.cells.now g.held.now g.out.now _ c.wide-a.result c.wide-b.result c.wide-c.result _
    c.record_bool-in-Assume.ensures c.tested-in-Assume.ensures)

pub returns-in-Array : goal.returns-in-Array
returns-in-Array c map stack ed calling =
    let g = c.args in
    let e = g.inputs.now in
    let m = now (goal.at.returns-in-Array c).After-wide-c in
    by-kind (goal.at.returns-in-Array c).After-wide-c stack _ array (sym c.in-Array.ensures) refl
    (records-array e.own.now m e.cells.now g.held.now g.out.now _ c.wide-a.result c.wide-b.result c.wide-c.result _
    c.requires.within.0.decls c.requires.within.0.sized c.record_uint.ensures c.laid.ensures)

pub returns-in-Loop : goal.returns-in-Loop
returns-in-Loop c map stack ed calling =
    by-kind (goal.at.returns-in-Loop c).After-wide-c stack _ loop (sym c.in-Loop.ensures) refl
    (c.record_loop.ensures c.wide-a.result
    c.requires.within.0.sized.rows c.requires.within.0.sized.starts c.requires.within.0.sized.ends)

pub returns-in-LoopEnd : goal.returns-in-LoopEnd
returns-in-LoopEnd c map stack ed calling =
    let g = c.args in
    by-kind (goal.at.returns-in-LoopEnd c).After-wide-c stack _ loop_end (sym c.in-LoopEnd.ensures) refl
    (c.record_repeat.ensures c.wide-a.result c.wide-b.result c.wide-c.result g.held.now)

pub returns-in-Procedure : goal.returns-in-Procedure
returns-in-Procedure c map stack ed calling =
    let g = c.args in
    let e = g.inputs.now in
    let m = now (goal.at.returns-in-Procedure c).After-wide-c in
    records-ends e.own.now stack m e.cells.now g.held.now g.out.now c.requires.within.1
    c.row_word-kind.ensures (c.wide-a.ensures ∙ c.row_word.ensures) (c.wide-b.ensures ∙ c.row_word-2.ensures)
    (c.wide-c.ensures ∙ c.row_word-3.ensures) map calling (sym c.in-Procedure.ensures)

pub returns-in-Return : goal.returns-in-Return
returns-in-Return c map stack ed calling =
    let g = c.args in
    let e = g.inputs.now in
    let m = now (goal.at.returns-in-Return c).After-wide-c in
    records-returns e.own.now stack m e.cells.now g.held.now g.out.now c.requires.within.1
    c.row_word-kind.ensures (c.wide-a.ensures ∙ c.row_word.ensures) (c.wide-b.ensures ∙ c.row_word-2.ensures)
    (c.wide-c.ensures ∙ c.row_word-3.ensures) _ map calling _
    (sym c.in-Return.ensures) c.record_uint-in-Return.ensures c.returned.ensures

pub returns-in-Call : goal.returns-in-Call
returns-in-Call c map stack ed calling =
    let g = c.args in
    let e = g.inputs.now in
    let m = now (goal.at.returns-in-Call c).After-wide-c in
    records-calls e.own.now stack m e.cells.now g.held.now g.out.now c.requires.within.1
    c.row_word-kind.ensures (c.wide-a.ensures ∙ c.row_word.ensures) (c.wide-b.ensures ∙ c.row_word-2.ensures)
    (c.wide-c.ensures ∙ c.row_word-3.ensures) _ map calling _
    (sym c.in-Call.ensures) c.requires.within.0 g.depth c.row_word-in-Call.result ed
    (c.row_word-in-Call.ensures ∙ sym (c.wide-a.ensures ∙ c.row_word.ensures)) c.record_uint-in-Call.ensures c.called.ensures

pub returns-in_default : goal.returns-in_default
returns-in_default c map stack ed calling =
    let g = c.args in
    let e = g.inputs.now in
    let m = now (goal.at.returns-in_default c).After-wide-c in
    let other = c.in_default in
    records-none e.own.now stack m e.cells.now g.held.now g.out.now c.requires.within.1
    c.row_word-kind.ensures (c.wide-a.ensures ∙ c.row_word.ensures) (c.wide-b.ensures ∙ c.row_word-2.ensures)
    (c.wide-c.ensures ∙ c.row_word-3.ensures) _ c.requires.plain c.from.result c.from.ensures
    other.not-Skip other.not-Assign other.not-Store other.not-Assert other.not-Assume other.not-Array other.not-Loop other.not-LoopEnd
    other.not-Procedure other.not-Return other.not-Call
