-- The arrays so far are in sequence, up to a cell.
-- Assumes nothing.
use native.Mathlib.Omega.{arith}
use mathlib.Core.Path.{refl, sym, ◌∙◌}
use Rattle.records.proofs.ArrayLaws.{laying-many, laying-all, laying-next, laying-off, laying-done}
use Rattle.records.proofs.arrays.arrays_fit.Goals as goal

pub returns-then-m-gt-ARRAYS : goal.returns-then-m-gt-ARRAYS
returns-then-m-gt-ARRAYS c = λ vs callers. let g = c.args in laying-many g.cells.now g.f g.m c.if-m-gt-ARRAYS.true

pub loop-i-init : goal.loop-i-init
loop-i-init c =
    let g = c.args in
    (refl, omega arith, omega arith, laying-all g.cells.now g.f g.m (omega (arith, c.if-m-gt-ARRAYS.false)))

pub loop-i-preserved : goal.loop-i-preserved
loop-i-preserved c =
    let g = c.args in
    let l = c.loop-i in (
      l.invariant.0,
      l.invariant.1,
      omega arith,
      laying-next g.cells.now g.f g.m l.from l.i l.invariant.3 (omega arith)
          c.size_for.ensures (sym c.array_fits.ensures ∙ c.if-not-array_fits.false),
    )

pub returns-then-not-array_fits : goal.returns-then-not-array_fits
returns-then-not-array_fits c = λ vs callers.
    let g = c.args in
    let l = c.loop-i in
    laying-off g.cells.now g.f g.m l.from l.i l.invariant.3 (omega arith) (sym c.array_fits.ensures ∙ c.if-not-array_fits.true)

pub returns : goal.returns
returns c = λ vs callers.
    let g = c.args in
    let l = c.loop-i in
    laying-done g.cells.now g.f g.m l.from l.i l.invariant.3 (omega arith)
