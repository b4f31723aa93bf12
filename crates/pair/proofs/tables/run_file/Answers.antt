-- By the reader's answer; the lines of a file that it accepts fit the words.
-- Assumes nothing.
use native.Mathlib.Omega.{arith}
use lib.ListN.{length-take}
use Rattle.std.proofs.lemmas.Result.{err_from_is_err_and}
use Rattle.model.specs.Class.{pair}
use Rattle.pair.proofs.InputLaws.{file-refused, file-read, lines_fit}
use Rattle.pair.proofs.tables.run_file.Goals as goal

pub slice_bounds-words-end : goal.slice_bounds-words-end
slice_bounds-words-end c = let k = c.in_ok-lines.ensures in omega (arith, lines_fit c.args.file.now _ _ k.answer k.buffer)

pub slice_bounds-run_table-end : goal.slice_bounds-run_table-end
slice_bounds-run_table-end c = let k = c.in_ok-lines.ensures in simp length-take (omega (arith, lines_fit c.args.file.now _ _ k.answer k.buffer))

pub returns-in_err-lines : goal.returns-in_err-lines
returns-in_err-lines c =
    let g = c.args in
    let k = c.in_err-lines.ensures in
    let p = err_from_is_err_and c.from_residual.result c.from_residual.ensures.1 in
    rw (p.1, p.2) (file-refused g.file.now _ k.buffer (pair g.c1 g.c2) g.limit _ k.answer)

pub returns : goal.returns
returns c =
    let g = c.args in
    let k = c.in_ok-lines.ensures in
    file-read g.file.now _ k.buffer (pair g.c1 g.c2) g.limit _ k.answer c.run_table.result c.run_table.ensures
