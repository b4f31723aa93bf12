-- `depths::breaks_10` meets its contract: a node has a depth, and no other line has.
-- Assumes nothing.
use native.Mathlib.Omega.{arith}
use Prim.Native.Nat.{◌+◌, ◌<◌, ◌≤◌}
use mathlib.Core.Path.{sym, ap, ◌∙◌}
use mathlib.Core.Bool.{false}
use lib.Dec.{ltb}
use Rattle.kinds.specs.Code.{table_in}
use Rattle.kinds.proofs.LineLaws.{at-declaration, at-node, at_row}
use Rattle.line_checks.specs.Rules.{breaks10, depth, most_depth}
use Rattle.line_checks.proofs.depths.breaks_10.Goals as goal

pub returns-then-line-decls-clause-value : goal.returns-then-line-decls-clause-value
unfolding breaks10
returns-then-line-decls-clause-value c =
    let t = table_in c.args.lines in
    sym (at-declaration t c.requires.in_sorts c.args.line (λ n. ltb most_depth (depth t n)) (λ r. false) c.if-line-decls.true)

pub returns-then-n-lines-clause-value : goal.returns-then-n-lines-clause-value
unfolding breaks10
returns-then-n-lines-clause-value c =
    let t = table_in c.args.lines in
    let i = c.args.line in
    let low : i < t.decls + t.nodes = omega arith in
    let call = c.depth_of in ap (ltb most_depth) call.ensures.value.0
    ∙ sym (at-node t c.requires.in_sorts i (λ n. ltb most_depth (depth t n)) (λ r. false) c.if-line-decls.false low)

pub returns-clause-value : goal.returns-clause-value
unfolding breaks10
returns-clause-value c =
    let t = table_in c.args.lines in
    let i = c.args.line in
    let high : t.decls + t.nodes ≤ i = omega arith in
    let inside : i < t.decls + t.nodes + t.rows = omega (arith, c.requires.in_sorts.whole, c.requires.depths_len.1) in
    sym (at_row t c.requires.in_sorts i (λ n. ltb most_depth (depth t n)) (λ r. false) high inside)
