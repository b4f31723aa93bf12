-- By the fresh state, from which the run is.
-- Assumes nothing.
use Rattle.runs.proofs.LendLaws.{few-decls, ready-fresh, reports-fresh}
use Rattle.runs.proofs.fresh.start.Goals as goal

pub fresh-r-requires : goal.fresh-r-requires
fresh-r-requires c =
    let g = c.args in
    few-decls g.t.now g.f g.cells.now c.requires

pub run_from-requires : goal.run_from-requires
run_from-requires c =
    let g = c.args in
    ready-fresh g.t.now g.f g.cells.now c.requires _ _ c.fresh-r.ensures c.zero_all.ensures

pub returns : goal.returns
returns c =
    let g = c.args in
    reports-fresh g.t.now g.f g.cells.now c.requires
    _ _ c.fresh-r.ensures c.zero_all.ensures g.limit g.list.now _ _ c.run_from.ensures
