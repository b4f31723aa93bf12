-- Each variable below i has its first number, and the others are 0.
-- Assumes nothing.
use native.Mathlib.Omega.{arith}
use mathlib.Core.Path.{◌≡◌}
use Rattle.machine.specs.CodeFresh.{fresh_machine}
use Rattle.machine.proofs.FreshLaws.{started_none, started-more}
use Rattle.machine.proofs.Machine.fresh.Goals as goal

pub loop-i-init : goal.loop-i-init
loop-i-init c = started_none _ _

pub loop-i-preserved : goal.loop-i-preserved
loop-i-preserved c =
    let head = c.loop-i in
    started-more _ _ _ (omega arith) head.invariant c.start_number.ensures

pub returns : goal.returns
unfolding fresh_machine
returns c =
    let head = c.loop-i in
    let a = c.args in
    let stop : head.i ≡ a.f.counts.decls = omega arith in
    rw (c.blank-m.ensures, head.invariant, stop)
