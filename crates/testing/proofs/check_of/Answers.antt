-- Item by item.
use Rattle.std.proofs.Common.{refl, ap, ◌∙◌, arith}
use Rattle.testing.specs.Checks.{mixed_with}
use Rattle.testing.proofs.TestLaws.{check-more, check-all}
use Rattle.testing.proofs.check_of.Goals as goal

pub loop-x-init : goal.loop-x-init
loop-x-init g c = λ word spells. refl

pub loop-x-preserved : goal.loop-x-preserved
loop-x-preserved g c = λ word spells.
    let w = spells c.x-item.result c.into.result c.into.ensures in
    check-more word c.args.s.now c.loop-x.x-index c.loop-x.h _ _ c.x-item.result (omega arith) c.x-item.is (c.loop-x.invariant word spells)
    (c.mixed-h.ensures ∙ ap (mixed_with c.loop-x.h) w)

pub returns : goal.returns
returns g c = λ word spells. check-all word c.args.s.now c.loop-x.x-index c.loop-x.h _ (omega arith) (c.loop-x.invariant word spells)
