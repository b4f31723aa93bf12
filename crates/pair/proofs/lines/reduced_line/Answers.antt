-- The reduction passes the checks of its run, so that the line is the report's.
-- Assumes nothing.
use mathlib.Core.Path.{refl}
use Rattle.pair.proofs.LineLaws.{reduce-ok, reduced-ok, reduced-said}
use Rattle.pair.proofs.lines.reduced_line.Goals as goal

pub unwrap-requires : goal.unwrap-requires
unwrap-requires c =
    let g = c.args in
    let p = c.requires in
    reduce-ok g.t.now g.c1 g.c2 g.lent.now c.reduce_table.result p.0 p.1 p.2 c.reduce_table.ensures.answer

pub unwrap-ran-requires : goal.unwrap-ran-requires
unwrap-ran-requires c =
    let g = c.args in
    let p = c.requires in
    reduced-ok g.t.now g.lent.now _ _ _ g.list.now g.c1 g.c2 g.limit c.run_reduced.result p.0 p.1 p.2 c.reduce_table.ensures.buffer refl c.run_reduced.ensures

pub returns : goal.returns
returns c =
    let g = c.args in
    let p = c.requires in
    reduced-said g.t.now g.lent.now _ _ _ g.list.now g.c1 g.c2 g.limit c.run_reduced.result p.0 p.1 p.2 c.reduce_table.ensures.buffer refl
    c.run_reduced.ensures _ c.line_of.result c.unwrap-ran.ensures c.line_of.ensures
