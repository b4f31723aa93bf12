-- By whether the row repeats the loop, and the row that closes it.
-- Assumes nothing.
use Rattle.row_kinds.proofs.LoopLaws.{way-again, way-past, way-found, way-lost}
use Rattle.row_variables.proofs.loops.way_out.Goals as goal

pub returns-then-again : goal.returns-then-again
returns-then-again c = let g = c.args in way-again g.own.now g.here g.row c.if-again.true

pub returns-then-rows-r : goal.returns-then-rows-r
returns-then-rows-r c = let g = c.args in way-past g.own.now g.here g.row c.if-again.false c.if-rows-r.true

pub returns-then-end-rows : goal.returns-then-end-rows
returns-then-end-rows c =
    let g = c.args in
    way-found g.own.now g.here g.row c.if-again.false c.matching_end-end.ensures c.if-end-rows.true

pub returns : goal.returns
returns c =
    let g = c.args in
    way-lost g.own.now g.here g.row c.if-again.false c.matching_end-end.ensures c.if-end-rows.false
