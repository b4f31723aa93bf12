-- Those so far fit.
-- Assumes nothing.
use native.Mathlib.Omega.{arith}
use mathlib.Core.Path.{sym, ◌∙◌}
use Rattle.records.proofs.VariableLaws.{vars-none, vars-next, vars-off, vars-done}
use Rattle.records.proofs.variables.variables_fit.Goals as goal

pub loop-i-init : goal.loop-i-init
loop-i-init c = let g = c.args in vars-none g.t.now g.f g.m

pub loop-i-preserved : goal.loop-i-preserved
loop-i-preserved c =
    let g = c.args in
    let l = c.loop-i in
    vars-next g.t.now g.f g.m l.i (omega arith) c.form_of-form.ensures l.invariant
    (sym c.variable_fits.ensures ∙ c.if-not-variable_fits.false)

pub returns-then-not-variable_fits : goal.returns-then-not-variable_fits
returns-then-not-variable_fits c = λ callers cells.
    let g = c.args in
    let l = c.loop-i in
    vars-off g.t.now g.f g.m l.i (omega arith) c.form_of-form.ensures
    (sym c.variable_fits.ensures ∙ c.if-not-variable_fits.true)

pub returns : goal.returns
returns c = λ callers cells.
    let g = c.args in
    let l = c.loop-i in
    vars-done g.t.now g.f g.m l.i l.invariant (omega arith)
