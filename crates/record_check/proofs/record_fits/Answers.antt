-- Where it stands, then a chain of tests, in the definition's order.
-- Assumes nothing.
use mathlib.Core.Path.{◌≡◌, sym, ap, ◌∙◌}
use mathlib.Core.Bool.{◌&&◌}
use Rattle.model.specs.Table.{home}
use Rattle.prepared.specs.View.{kind_of, places, table_for}
use Rattle.machine.specs.View.{state_of}
use Rattle.records.specs.Record.{variables_fit, locals_idle}
use Rattle.records.proofs.FitLaws.{callers_fit, fits-here, here-row, fits-arrays, fits-off, and_then, and-else}
use Rattle.record_check.proofs.record_fits.Goals as goal
use Rattle.record_check.proofs.record_fits.Goals.{Joined-variables_fit, then-callers_right, else-callers_right, then-variables_fit, else-variables_fit}

pub returns-then-not-stands_right : goal.returns-then-not-stands_right
returns-then-not-stands_right c =
    let g = c.args in
    fits-here (kind_of g.f) (places g.f) (table_for g.t.now g.f) (state_of g.t.now g.f g.r g.cells.now)
    c.stands_right.ensures c.if-not-stands_right.true

-- what the tests before the last come to; the map gives what is at work
tests : (c : Joined-variables_fit) → let g = c.args in let t = table_for g.t.now g.f in let s = state_of g.t.now g.f g.r g.cells.now in
    c.if-variables_fit.value
    ≡ ((callers_fit t s (home t s.here.row) && variables_fit (kind_of g.f) (places g.f) t s) && locals_idle t s)
tests c =
    let g = c.args in
    let t = table_for g.t.now g.f in
    let s = state_of g.t.now g.f g.r g.cells.now in
    let here = here-row (kind_of g.f) (places g.f) t s c.stands_right.ensures c.if-not-stands_right.false in
    let callers = c.callers_right.ensures ∙ ap (callers_fit t s) (c.map_procedures.ensures.homes g.r.machine.row here) in
    let first : c.if-callers_right.value ≡ (callers_fit t s (home t s.here.row) && variables_fit (kind_of g.f) (places g.f) t s) =
    elim c.if-callers_right.branch [
      | then-callers_right w ↦
          and_then (sym callers ∙ w.if-callers_right.true) (w.value-is ∙ w.variables_fit.ensures s.callers g.cells.now)
      | else-callers_right w ↦ and-else _ (sym callers ∙ w.if-callers_right.false) (w.value-is ∙ w.if-callers_right.false)
    ] in
    elim c.if-variables_fit.branch [
      | then-variables_fit w ↦
          and_then (sym first ∙ w.if-variables_fit.true) (w.value-is ∙ w.locals_idle.ensures s.callers g.cells.now)
      | else-variables_fit w ↦ and-else _ (sym first ∙ w.if-variables_fit.false) (w.value-is ∙ w.if-variables_fit.false)
    ]

pub returns-then-locals_idle : goal.returns-then-locals_idle
returns-then-locals_idle c =
    let g = c.args in
    let s = state_of g.t.now g.f g.r g.cells.now in
    fits-arrays (kind_of g.f) (places g.f) (table_for g.t.now g.f) s c.stands_right.ensures c.if-not-stands_right.false
    (tests (goal.at.returns-then-locals_idle c).Joined-variables_fit) c.if-locals_idle.true (c.arrays_fit.ensures s.vars s.callers)

pub returns-else-locals_idle : goal.returns-else-locals_idle
returns-else-locals_idle c =
    let g = c.args in
    fits-off (kind_of g.f) (places g.f) (table_for g.t.now g.f) (state_of g.t.now g.f g.r g.cells.now)
    c.stands_right.ensures c.if-not-stands_right.false
    (tests (goal.at.returns-else-locals_idle c).Joined-variables_fit) c.if-locals_idle.false
