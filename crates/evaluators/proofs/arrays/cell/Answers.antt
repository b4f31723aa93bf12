-- By the array that the pointer points to, and its length.
-- Assumes nothing.
use lib.ListN.{drop}
use borrow.Author.Tests.{lt-ltb, le-ltb}
use Rattle.model.specs.Table.Ty.{uint}
use Rattle.evaluators.specs.CodeLeaves.{target_out, load_of}
use Rattle.evaluators.proofs.AnswerLaws.{said-fails, said-stuck}
use Rattle.evaluators.proofs.arrays.cell.Goals as goal

pub returns-then-len-place : goal.returns-then-len-place
unfolding load_of target_out
returns-then-len-place c =
    let g = c.args in
    let cs = drop g.at g.inputs.now.list.now in
    said-fails uint _ (rw (← c.pointed-x.ensures.found cs, c.in-Array.is, le-ltb _ _ c.if-len-place.true))

pub returns-else-len-place : goal.returns-else-len-place
unfolding load_of target_out
returns-else-len-place c =
    let g = c.args in
    let cs = drop g.at g.inputs.now.list.now in
    rw (← c.pointed-x.ensures.found cs, c.in-Array.is, lt-ltb _ _ c.if-len-place.false) c.kept_cell.ensures

pub returns-in-Missing : goal.returns-in-Missing
unfolding load_of target_out
returns-in-Missing c =
    let g = c.args in
    let cs = drop g.at g.inputs.now.list.now in
    said-fails uint _ (rw (← c.pointed-x.ensures.found cs, c.in-Missing.is))

pub returns-in-Unknown : goal.returns-in-Unknown
unfolding load_of target_out
returns-in-Unknown c =
    let g = c.args in
    let cs = drop g.at g.inputs.now.list.now in
    said-stuck uint (rw (← c.pointed-x.ensures.found cs, c.in-Unknown.is))
