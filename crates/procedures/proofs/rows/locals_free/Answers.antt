-- `rows::locals_free` meets its contract: the locals passed are free.
-- Assumes nothing.
use native.Mathlib.Omega.{arith}
use mathlib.Core.Path.{sym}
use Rattle.procedures.proofs.RowLaws.{free_all, free_more, free-none, free-stop}
use Rattle.procedures.proofs.rows.locals_free.Goals as goal

pub returns-then-is_marked-owner_of : goal.returns-then-is_marked-owner_of
returns-then-is_marked-owner_of c =
    let a = c.args in
    let at_head = c.loop-i in
    sym (free-stop a.words.now a.owners.now a.a a.count a.first at_head.i c.loop-i-test.true
    (rw (← c.is_marked.ensures, ← c.owner_of.ensures) c.if-is_marked-owner_of.true))

pub loop-i-preserved : goal.loop-i-preserved
loop-i-preserved c =
    let a = c.args in
    let at_head = c.loop-i in
    free_more a.words.now a.owners.now a.a a.count a.first at_head.i at_head.invariant
    (rw (← c.is_marked.ensures, ← c.owner_of.ensures) c.if-is_marked-owner_of.false)

pub returns : goal.returns
returns c =
    let a = c.args in
    let at_head = c.loop-i in
    sym (free_all a.words.now a.owners.now a.a a.count a.first at_head.i (omega arith) at_head.invariant)

pub loop-i-init : goal.loop-i-init
loop-i-init c = free-none _ _ _ _ _
