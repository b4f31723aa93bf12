-- The checks are made in the definition's order.
-- Assumes nothing.
use mathlib.Core.Path.{refl}
use Rattle.std.proofs.lemmas.Result.{err_from_is_err_and}
use Rattle.choices.proofs.SaidLaws.{writer-table, writer-places, writer-size}
use Rattle.choices.proofs.check_writer.Goals as goal

pub returns-in_err-check_table : goal.returns-in_err-check_table
returns-in_err-check_table c =
    let p = err_from_is_err_and c.from_residual.result c.from_residual.ensures.1 in
    rw (p.1, p.2) (writer-table _ _ _ c.in_err-check_table.ensures refl)

pub returns-in_err-check_pair : goal.returns-in_err-check_pair
returns-in_err-check_pair c =
    let residual = c.from_residual-in_err-check_pair in
    let p = err_from_is_err_and residual.result residual.ensures.1 in
    rw (p.1, p.2) (writer-places _ _ _ c.in_ok-check_table.ensures refl c.in_err-check_pair.ensures refl)

pub returns : goal.returns
returns c = writer-size _ _ _ c.in_ok-check_table.ensures refl c.in_ok-check_pair.ensures refl c.check_size.ensures
