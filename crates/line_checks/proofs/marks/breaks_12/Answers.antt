-- `marks::breaks_12` meets its contract: the line is a declaration or not by its place.
-- Assumes nothing.
use Prim.Native.Nat.{◌+◌, ◌<◌}
use native.Mathlib.Omega.{arith}
use mathlib.Core.Path.{sym, ap, ◌∙◌}
use mathlib.Core.Bool.{not}
use Rattle.kinds.specs.Kinds.{machine_of}
use Rattle.kinds.specs.Code.{table_in}
use Rattle.line_checks.proofs.TypeLaws.{breaks-marks, no-marks}
use Rattle.line_checks.proofs.marks.breaks_12.Goals as goal

pub returns-then-line-lines : goal.returns-then-line-lines
returns-then-line-lines c =
    let t = table_in c.args.lines in
    let laid = c.requires.in_sorts in
    sym (no-marks t laid c.args.line (machine_of c.args.reduced) c.if-line-lines.true)

pub returns : goal.returns
returns c =
    let t = table_in c.args.lines in
    let laid = c.requires.in_sorts in
    let inside : c.args.line < t.decls + t.nodes + t.rows = omega arith in
    ap not c.line_suits.ensures ∙ sym (breaks-marks t laid c.args.line c.args.reduced c.if-line-lines.false inside)
