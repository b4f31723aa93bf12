-- By what is left of the run on the copy, from where the machine stands.
-- Assumes nothing.
use mathlib.Core.Path.{◌≡◌, refl, ◌∙◌}
use Prim.Native.Nat.{◌<◌}
use native.Mathlib.Omega.{arith}
use mathlib.Core.Bool.{false}
use borrow.Author.Rules.{rules}
use Rattle.model.specs.Step.{finished}
use Rattle.prepared.specs.Own.{own_table}
use Rattle.machine.specs.View.{own_state}
use Rattle.machine.specs.CodeMoves.{StepWorks, Sized}
use Rattle.runs.proofs.ReadyLaws.{left-done, left_out, left-again, left-stop, within, step-bounds, numbers-left, reports-own}
use Rattle.runs.proofs.CallingLaws.{calls-fit, procedures-own, table-going, going-on-copy, done-on-copy}
use Rattle.runs.proofs.steps.run_steps.Goals as goal
use Rattle.runs.proofs.steps.run_steps.Goals.{After-move_of-w}

-- the run goes on, by the loop's test
going : (c : After-move_of-w) → let h = c.loop-m in finished (own_table c.lay_out.new.own) (own_state c.lay_out.new.own h.stack h.m h.cells) ≡ false
going c =
    let h = c.loop-m in
    let L = h.invariant.0 in
    going-on-copy _ L.frame _ L.copied h.m h.stack h.cells L.ready _ c.map_own.ensures c.loop-m-test.true

-- what the row comes to is the model's step
works : (c : After-move_of-w) → let h = c.loop-m in StepWorks c.lay_out.new.own h.stack h.m h.cells c.args.list.now h.at c.move_of-w.result
works c =
    let h = c.loop-m in
    let L = h.invariant.0 in
    c.move_of-w.ensures _ h.stack refl (calls-fit _ L.frame _ L.copied h.m h.stack h.cells L.ready _ c.map_own.ensures
    (table-going _ L.frame _ L.copied h.m h.stack h.cells L.ready (going c)))

pub returns-then-steps-limit : goal.returns-then-steps-limit
returns-then-steps-limit c =
    let g = c.args in
    let h = c.loop-m in
    let L = h.invariant.0 in
    reports-own g.t.now g.f _ c.lay_out.ensures g.m g.stack g.cells.now c.requires g.list.now g.limit c.at_end.result h.cells
    (left_out g.t.now _ g.list.now g.limit g.m g.stack g.cells.now h.m h.stack h.cells h.at h.steps L
    (going-on-copy _ L.frame _ L.copied h.m h.stack h.cells L.ready _ c.map_own.ensures c.loop-m-test.true)
    c.if-steps-limit.true _ c.at_end.ensures)

pub move_of-w-requires : goal.move_of-w-requires
move_of-w-requires c =
    let h = c.loop-m in
    let L = h.invariant.0 in
    within _ L.frame _ L.copied h.m h.stack h.cells L.ready L.sized

pub returns-in_default : goal.returns-in_default
returns-in_default c =
    let g = c.args in
    let h = c.loop-m in
    let L = h.invariant.0 in
    let more : h.steps < g.limit = omega (arith, L.upto, c.if-steps-limit.false) in
    let p = (goal.at.returns-in_default c).After-move_of-w in
    reports-own g.t.now g.f _ c.lay_out.ensures g.m g.stack g.cells.now c.requires g.list.now g.limit c.stopped.result h.cells
    (left-stop g.t.now _ g.list.now g.limit g.m g.stack g.cells.now h.m h.stack h.cells h.at h.steps L
    (going p) more (works p) c.in_default.not-Moves _ c.stopped.ensures)

pub step-m-requires : goal.step-m-requires
step-m-requires c =
    let g = c.args in
    let h = c.loop-m in
    let L = h.invariant.0 in
    let p = (goal.at.step-m-requires c).After-move_of-w in
    let bounds = step-bounds _ L.frame _ L.copied h.m h.stack h.cells L.ready _ h.at (works p) c.in-Moves.is in
    (bounds.0, procedures-own _ L.frame _ L.copied h.m h.stack h.cells L.ready _ c.map_own.ensures, bounds.1)

pub loop-m-preserved : goal.loop-m-preserved
loop-m-preserved c =
    let g = c.args in
    let h = c.loop-m in
    let L = h.invariant.0 in
    let more : h.steps < g.limit = omega (arith, L.upto, c.if-steps-limit.false) in
    let p = (goal.at.loop-m-preserved c).After-move_of-w in
    let sized : Sized c.step-m.result = search rules in (
      left-again g.t.now _ g.list.now g.limit g.m g.stack g.cells.now h.m h.stack h.cells h.at h.steps L
          (going p) more (works p) (numbers-left h.at g.list.now (λ i. omega (arith, c.type_inv.list i)))
          c.in-Moves.is _ _ _ c.step-m.ensures sized c.step-m.auto.cells,
      c.step-m.auto.cells ∙ h.invariant.1,
    )

pub returns : goal.returns
returns c =
    let g = c.args in
    let h = c.loop-m in
    let L = h.invariant.0 in
    reports-own g.t.now g.f _ c.lay_out.ensures g.m g.stack g.cells.now c.requires g.list.now g.limit c.at_end-2.result h.cells
    (left-done g.t.now _ g.list.now g.limit g.m g.stack g.cells.now h.m h.stack h.cells h.at h.steps L
    (done-on-copy _ L.frame _ L.copied h.m h.stack h.cells L.ready _ c.map_own.ensures c.loop-m-test.false) _
    c.at_end-2.ensures)
