-- The checks are made in the definition's order.
-- Assumes nothing.
use mathlib.Core.Path.{refl}
use Rattle.std.proofs.lemmas.Result.{err_from_is_err_and}
use Rattle.runs.proofs.LendLaws.{run-table, run-places, run-size}
use Rattle.runs.proofs.checks.check_run.Goals as goal

pub returns-in_err-check_table : goal.returns-in_err-check_table
returns-in_err-check_table c =
    let p = err_from_is_err_and c.from_residual.result c.from_residual.ensures.1 in
    rw (p.1, p.2) (run-table _ _ _ _ c.in_err-check_table.ensures refl)

pub returns-in_err-places_for : goal.returns-in_err-places_for
returns-in_err-places_for c =
    let residual = c.from_residual-in_err-places_for in
    let p = err_from_is_err_and residual.result residual.ensures.1 in
    rw (p.1, p.2) (run-places _ _ _ _ c.in_ok-check_table.ensures refl c.in_err-places_for.ensures refl)

pub returns : goal.returns
returns c = run-size _ _ _ _ c.in_ok-check_table.ensures refl c.in_ok-places_for.ensures refl c.cells_of.ensures c.check_size.ensures
