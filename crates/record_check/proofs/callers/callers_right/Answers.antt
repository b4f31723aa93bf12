-- Those below are left, with the first row of what the last of them must call.
-- Assumes nothing.
use native.Mathlib.Omega.{arith}
use Prim.Native.Nat.{◌*◌, ◌-◌, ◌<◌}
use mathlib.Core.Path.{sym, ◌∙◌, subst}
use lib.ListN.{get_or}
use Rattle.prepared.specs.View.{table_for}
use Rattle.records.proofs.CallerLaws.{Left, callers-many, callers-all, callers-next, callers-off, callers-done, calls-there}
use Rattle.record_check.proofs.callers.callers_right.Goals as goal
use Rattle.record_check.proofs.callers.callers_right.Goals.{Else-not-calls_right}

-- a caller that is right stands in the table
there : (c : Else-not-calls_right) → get_or c.args.stack.now (30 * (c.loop-n.n - 1)) 0 < (table_for c.args.t.now c.args.f).rows
there c =
    let g = c.args in
    calls-there (table_for g.t.now g.f) g.stack.now (30 * (c.loop-n.n - 1)) c.loop-n.q (sym c.calls_right.ensures ∙ c.if-not-calls_right.false)

pub returns-then-depth-gt-CALLERS : goal.returns-then-depth-gt-CALLERS
returns-then-depth-gt-CALLERS c =
    let g = c.args in
    callers-many (table_for g.t.now g.f) g.stack.now g.at_work (omega (arith, c.if-depth-gt-CALLERS.true))

pub loop-n-init : goal.loop-n-init
loop-n-init c =
    let g = c.args in
    (omega (arith, c.if-depth-gt-CALLERS.false), callers-all (table_for g.t.now g.f) g.stack.now g.at_work (omega (arith, c.if-depth-gt-CALLERS.false)))

pub loop-n-preserved : goal.loop-n-preserved
loop-n-preserved c =
    let g = c.args in
    let l = c.loop-n in
    let t = table_for g.t.now g.f in (
      omega arith,
      subst (λ q. Left t g.stack.now g.at_work q (l.n - 1))
          (sym (c.requires.in_sorts.2.homes _ (omega (arith, there (goal.at.loop-n-preserved c).Else-not-calls_right))))
          (callers-next t g.stack.now g.at_work l.q l.n (l.n - 1) l.invariant.1 (omega arith)
          (sym c.calls_right.ensures ∙ c.if-not-calls_right.false)),
    )

pub returns-then-not-calls_right : goal.returns-then-not-calls_right
returns-then-not-calls_right c =
    let g = c.args in
    let l = c.loop-n in
    callers-off (table_for g.t.now g.f) g.stack.now g.at_work l.q l.n (l.n - 1) l.invariant.1 (omega arith)
    (sym c.calls_right.ensures ∙ c.if-not-calls_right.true)

pub returns : goal.returns
returns c =
    let g = c.args in
    let l = c.loop-n in
    callers-done (table_for g.t.now g.f) g.stack.now g.at_work l.q l.n l.invariant.1 (omega arith)

pub overflow_add-q : goal.overflow_add-q
overflow_add-q c = omega (arith, there (goal.at.overflow_add-q c).Else-not-calls_right, c.requires.in_sorts.0.few_rows)

pub offset_bounds-map-stack : goal.offset_bounds-map-stack
offset_bounds-map-stack c = omega (arith, there (goal.at.offset_bounds-map-stack c).Else-not-calls_right, c.requires.in_sorts.0.few_rows)

pub bounds-map-stack : goal.bounds-map-stack
bounds-map-stack c = omega (arith, there (goal.at.bounds-map-stack c).Else-not-calls_right, c.requires.in_sorts.0.few_rows)
