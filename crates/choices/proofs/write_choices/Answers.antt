-- By the verdict of the checks.
-- Assumes nothing.
use mathlib.Core.Path.{refl}
use Rattle.std.proofs.lemmas.Result.{err_from_is_err_and}
use Rattle.runs.proofs.LendLaws.{few-decls}
use Rattle.choices.proofs.SaidLaws.{lent, begins, said-writes, said-refused}
use Rattle.choices.proofs.write_choices.Goals as goal

pub returns-in_err-check_writer : goal.returns-in_err-check_writer
returns-in_err-check_writer c =
    let g = c.args in
    let p = err_from_is_err_and c.from_residual.result c.from_residual.ensures.1 in
    rw (p.1, p.2) (said-refused g.t.now g.cells.now g.list.now g.c1 g.c2 g.limit _ c.in_err-check_writer.ensures)

pub fresh-r-requires : goal.fresh-r-requires
fresh-r-requires c =
    let g = c.args in
    few-decls g.t.now _ g.cells.now (lent g.t.now g.cells.now g.c1 g.c2 c.in_ok-check_writer.ensures refl c.frame_of-f.ensures)

pub write_steps-requires : goal.write_steps-requires
write_steps-requires c =
    let g = c.args in
    begins g.t.now g.cells.now g.c1 g.c2 c.in_ok-check_writer.ensures refl c.frame_of-f.ensures c.fresh-r.ensures c.zero_all.ensures

pub returns : goal.returns
returns c =
    let g = c.args in
    said-writes g.t.now g.cells.now g.c1 g.c2 c.in_ok-check_writer.ensures refl c.frame_of-f.ensures c.fresh-r.ensures c.zero_all.ensures g.list.now g.limit
    c.write_steps.ensures
