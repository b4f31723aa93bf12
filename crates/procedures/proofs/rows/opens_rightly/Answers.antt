-- `rows::opens_rightly` meets its contract: the test, and what is asked where it holds.
-- Assumes nothing.
use lib.Dec.{ltb, eqb}
use Rattle.model.specs.Table.{between}
use Rattle.procedures.specs.Code.{opens_by}
use Rattle.procedures.proofs.RowLaws.{opens-else, opens-then}
use Rattle.procedures.proofs.rows.opens_rightly.Goals as goal

pub returns-then-met-count : goal.returns-then-met-count
unfolding opens_by
returns-then-met-count c =
    let a = c.args in
    rw c.locals_free.ensures (opens-then (ltb a.met.opened 16) (eqb a.met.loops 0) (between 1 4 a.count) _ c.if-met-count.true)

pub returns : goal.returns
unfolding opens_by
returns c =
    let a = c.args in
    opens-else (ltb a.met.opened 16) (eqb a.met.loops 0) (between 1 4 a.count) _ c.if-met-count.false
