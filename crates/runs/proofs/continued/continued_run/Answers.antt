-- By the verdict of the checks, and by whether 15 refuses the record.
-- Assumes nothing.
use mathlib.Core.Path.{refl, sym, ◌∙◌}
use Rattle.std.proofs.lemmas.Result.{err_from_is_err_and}
use Rattle.runs.proofs.LendLaws.{lends, laid, whole-accepted, continues}
use Rattle.runs.proofs.SaidLaws.{continued-refused, continued-ran, continued-broken}
use Rattle.runs.proofs.continued.continued_run.Goals as goal

pub returns-in_err-check_run : goal.returns-in_err-check_run
returns-in_err-check_run c =
    let g = c.args in
    let p = err_from_is_err_and c.from_residual.result c.from_residual.ensures.1 in
    rw (p.1, p.2) (continued-refused g.t.now g.classes g.c1 g.c2 g.list.now g.cells.now g.limit _ c.in_err-check_run.ensures g.r)

pub record_fits-requires : goal.record_fits-requires
record_fits-requires c =
    let g = c.args in
    let l = lends g.t.now g.cells.now g.classes g.c1 g.c2 c.in_ok-check_run.ensures refl c.frame_of-f.ensures in
    (laid g.t.now _ g.cells.now l, whole-accepted g.t.now _ g.cells.now l)

pub run_from-requires : goal.run_from-requires
run_from-requires c =
    let g = c.args in
    continues g.t.now g.cells.now g.classes g.c1 g.c2 c.in_ok-check_run.ensures refl c.frame_of-f.ensures g.r
    (sym c.record_fits.ensures ∙ c.if-record_fits.true)

pub returns-then-record_fits : goal.returns-then-record_fits
returns-then-record_fits c =
    let g = c.args in
    continued-ran g.t.now g.classes g.c1 g.c2 g.list.now g.cells.now g.limit c.in_ok-check_run.ensures _ c.frame_of-f.ensures c.run_from.result _ g.r
    (sym c.record_fits.ensures ∙ c.if-record_fits.true) c.run_from.ensures

pub returns : goal.returns
returns c =
    let g = c.args in
    continued-broken g.t.now g.classes g.c1 g.c2 g.list.now g.cells.now g.limit c.in_ok-check_run.ensures _ c.frame_of-f.ensures g.r
    (sym c.record_fits.ensures ∙ c.if-record_fits.false) c.of_whole.result c.of_whole.ensures
