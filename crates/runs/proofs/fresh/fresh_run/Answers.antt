-- By the verdict of the checks.
-- Assumes nothing.
use mathlib.Core.Path.{refl}
use Rattle.std.proofs.lemmas.Result.{err_from_is_err_and}
use Rattle.runs.proofs.LendLaws.{lends}
use Rattle.runs.proofs.SaidLaws.{fresh-refused, fresh-ran}
use Rattle.runs.proofs.fresh.fresh_run.Goals as goal

pub returns-in_err-check_run : goal.returns-in_err-check_run
returns-in_err-check_run c =
    let g = c.args in
    let p = err_from_is_err_and c.from_residual.result c.from_residual.ensures.1 in
    rw (p.1, p.2) (fresh-refused g.t.now g.classes g.c1 g.c2 g.list.now g.cells.now g.limit _ c.in_err-check_run.ensures)

pub start-requires : goal.start-requires
start-requires c =
    let g = c.args in
    lends g.t.now g.cells.now g.classes g.c1 g.c2 c.in_ok-check_run.ensures refl c.frame_of-f.ensures

pub returns : goal.returns
returns c =
    let g = c.args in
    fresh-ran g.t.now g.classes g.c1 g.c2 g.list.now g.cells.now g.limit c.in_ok-check_run.ensures _ c.frame_of-f.ensures c.start.result _ c.start.ensures
