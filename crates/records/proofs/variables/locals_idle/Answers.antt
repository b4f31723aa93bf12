-- Those so far are globals, locals of what is at work, or 0.
-- Assumes nothing.
use native.Mathlib.Omega.{arith}
use mathlib.Core.Path.{sym, ◌∙◌}
use Rattle.records.proofs.VariableLaws.{idle-none, idle-next, idle-off}
use Rattle.records.proofs.variables.locals_idle.Goals as goal

pub loop-i-init : goal.loop-i-init
loop-i-init c = let g = c.args in (c.owners_of-owners.ensures, idle-none g.t.now g.f g.m)

pub loop-i-preserved : goal.loop-i-preserved
loop-i-preserved c =
    let g = c.args in
    let l = c.loop-i in (
      l.invariant.0,
      idle-next g.t.now g.f g.m c.requires.1 c.requires.2 l.i (omega arith)
          (l.invariant.0.right l.i (omega (arith, c.requires.0.few_decls))) l.invariant.1 (sym c.may_hold.ensures ∙ c.if-not-may_hold.false),
    )

pub returns-then-not-may_hold : goal.returns-then-not-may_hold
returns-then-not-may_hold c = λ callers cells.
    let g = c.args in
    let l = c.loop-i in
    idle-off g.t.now g.f g.m c.requires.1 c.requires.2 l.i (omega arith)
    (l.invariant.0.right l.i (omega (arith, c.requires.0.few_decls))) (sym c.may_hold.ensures ∙ c.if-not-may_hold.true)
