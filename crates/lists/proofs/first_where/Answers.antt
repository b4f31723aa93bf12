-- The walk over the numbers below n stops where the closure answers true.
use Rattle.std.proofs.Common.{◌≡◌, true, false, sym, ◌∙◌, arith}
use Rattle.lists.proofs.FirstLaws.{first-hit, first-miss, first-none}
use Rattle.lists.proofs.first_where.Goals as goal

pub returns-then-holds : goal.returns-then-holds
returns-then-holds g c = λ test same.
    let i = c.loop-i.i in
    let hit : test i ≡ true = sym (same i true (omega arith) c.if-holds.ensures) in
    sym (c.loop-i.invariant test same ∙ first-hit test i c.args.n (omega arith) hit)

pub loop-i-preserved : goal.loop-i-preserved
loop-i-preserved g c = λ test same.
    let i = c.loop-i.i in
    let miss : test i ≡ false = sym (same i false (omega arith) c.if-holds.ensures) in
    c.loop-i.invariant test same ∙ first-miss test i c.args.n (omega arith) miss

pub returns : goal.returns
returns g c = λ test same. sym (c.loop-i.invariant test same ∙ first-none test c.loop-i.i c.args.n (omega arith))
