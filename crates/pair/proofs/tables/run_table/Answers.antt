-- By the verdict of the writer's checks; the numbers that it counted are the list's first.
-- Assumes nothing.
use mathlib.Core.Path.{refl}
use native.Mathlib.Omega.{arith}
use lib.ListN.{length-take}
use Rattle.std.proofs.lemmas.Result.{err_from_is_err_and}
use Rattle.pair.proofs.WriterLaws.{refused-said, passed, lines-said}
use Rattle.pair.proofs.tables.run_table.Goals as goal

pub returns-in_err-ran : goal.returns-in_err-ran
returns-in_err-ran c =
    let g = c.args in
    let p = err_from_is_err_and c.from_residual.result c.from_residual.ensures.1 in
    rw (p.1, p.2) (refused-said g.t.now g.c1 g.c2 g.limit _ _ _ _ refl _ c.in_err-ran.ensures)

pub plain_of-plain-requires : goal.plain_of-plain-requires
plain_of-plain-requires c = let g = c.args in (passed g.t.now g.c1 g.c2 g.limit _ _ _ _ refl _ c.in_ok-ran.ensures refl).table

pub slice_bounds-list-end : goal.slice_bounds-list-end
slice_bounds-list-end c = let g = c.args in (passed g.t.now g.c1 g.c2 g.limit _ _ _ _ refl _ c.in_ok-ran.ensures refl).fits

pub slice_bounds-pair_line-end : goal.slice_bounds-pair_line-end
slice_bounds-pair_line-end c =
    let g = c.args in
    let P = passed g.t.now g.c1 g.c2 g.limit _ _ _ _ refl _ c.in_ok-ran.ensures refl in
    simp length-take (omega (arith, P.fits))

pub pair_line-pair-requires : goal.pair_line-pair-requires
pair_line-pair-requires c =
    let g = c.args in
    let P = passed g.t.now g.c1 g.c2 g.limit _ _ _ _ refl _ c.in_ok-ran.ensures refl in
    (P.table, P.places, c.requires)

pub returns : goal.returns
returns c =
    let g = c.args in
    lines-said (passed g.t.now g.c1 g.c2 g.limit _ _ _ _ refl _ c.in_ok-ran.ensures refl)
    c.plain_of-plain.result c.pair_line-pair.result c.plain_of-plain.ensures c.pair_line-pair.ensures
