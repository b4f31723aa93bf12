-- Array i + 1 is entry i of the columns.
-- Assumes nothing.
use Rattle.evaluators.proofs.ViewLaws.{points_none, points-lacking, points_to}
use Rattle.evaluators.proofs.arrays.pointed.Goals as goal

pub returns-then-to-eq0 : goal.returns-then-to-eq0
returns-then-to-eq0 c = points_none _ _ _ _ _ c.if-to-eq0.true

pub returns-then-m-to : goal.returns-then-m-to
returns-then-m-to c = points-lacking _ _ _ _ _ c.if-m-to.true

pub returns : goal.returns
returns c = points_to _ _ _ _ _ c.if-to-eq0.false c.if-m-to.false
