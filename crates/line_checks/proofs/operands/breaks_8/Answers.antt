-- `lines::breaks_8` meets its contract: the line is a node or a row by its place.
-- Assumes nothing.
use native.Mathlib.Omega.{arith}
use mathlib.Core.Path.{sym, ap}
use mathlib.Core.Bool.{not}
use Prim.Native.Nat.{◌+◌, ◌<◌}
use Rattle.model.specs.Accepted.{node_there, row_there}
use Rattle.kinds.specs.Code.{table_in}
use Rattle.kinds.proofs.LineLaws.{at-declaration, at-node, at_row}
use Rattle.line_checks.specs.Rules.{breaks8}
use Rattle.line_checks.proofs.OperandLaws.{node-there, row-there}
use Rattle.line_checks.proofs.operands.breaks_8.Goals as goal

pub returns-then-line-decls : goal.returns-then-line-decls
unfolding breaks8
returns-then-line-decls c = let t = table_in c.args.lines in
    let i = c.args.line in
    let laid = c.requires.in_sorts in
    sym (at-declaration t laid i (λ n. not (node_there t n)) (λ r. not (row_there t r)) c.if-line-decls.true)

pub returns-then-line-decls-2 : goal.returns-then-line-decls-2
unfolding breaks8
returns-then-line-decls-2 c =
    let t = table_in c.args.lines in
    let i = c.args.line in
    let laid = c.requires.in_sorts in
    let low = c.if-line-decls.false in
    let high = c.if-line-decls-2.true in
    rw (at-node t laid i (λ n. not (node_there t n)) (λ r. not (row_there t r)) low high, node-there t laid i low high) (ap not c.line_there.ensures)

pub returns : goal.returns
unfolding breaks8
returns c =
    let t = table_in c.args.lines in
    let i = c.args.line in
    let laid = c.requires.in_sorts in
    let last : i < t.decls + t.nodes + t.rows = omega arith in
    let low = c.if-line-decls-2.false in
    rw (
      at_row t laid i (λ n. not (node_there t n)) (λ r. not (row_there t r)) low last,
      row-there t laid i low last,
      c.line_there-2.ensures,
      c.locals_there-locals.ensures,
    )
