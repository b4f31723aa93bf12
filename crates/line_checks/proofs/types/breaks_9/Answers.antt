-- `types::breaks_9` meets its contract: the line is a declaration or not by its place.
-- Assumes nothing.
use borrow.Author.Rules.{rules}
use Prim.Native.Nat.{◌+◌, ◌<◌}
use native.Mathlib.Omega.{arith}
use mathlib.Core.Path.{sym, ap, ◌∙◌}
use mathlib.Core.Bool.{not}
use Rattle.kinds.specs.Code.{table_in}
use Rattle.line_checks.proofs.TypeLaws.{breaks-types, fit_line, no-types}
use Rattle.line_checks.proofs.types.breaks_9.Goals as goal

pub returns-then-line-lines : goal.returns-then-line-lines
returns-then-line-lines c =
    let t = table_in c.args.lines in
    let laid = c.requires.in_sorts in
    sym (no-types t laid c.args.line c.if-line-lines.true)

pub line_typed-requires : goal.line_typed-requires
line_typed-requires c =
    let a = c.args in
    let t = table_in a.lines in
    let inside : a.line < t.decls + t.nodes + t.rows = omega arith in (
      search rules,
      fit_line t c.requires.in_sorts a.line c.requires.there a.types.now c.requires.types c.if-line-lines.false inside,
    )

pub returns : goal.returns
returns c =
    let a = c.args in
    let t = table_in a.lines in
    let inside : a.line < t.decls + t.nodes + t.rows = omega arith in
    let typed = breaks-types t c.requires.in_sorts a.line c.requires.there a.types.now c.requires.types c.if-line-lines.false inside in
    ap not c.line_typed.ensures ∙ sym typed
