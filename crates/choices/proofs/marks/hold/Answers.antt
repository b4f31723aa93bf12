-- By whether there is a place for one more array.
-- Assumes nothing.
use Rattle.choices.proofs.HeldLaws.{held-put, held_kept}
use Rattle.choices.proofs.marks.hold.Goals as goal

pub returns-then-count-lt-ARRAYS : goal.returns-then-count-lt-ARRAYS
returns-then-count-lt-ARRAYS c =
    let g = c.args in
    held-put g.own.now g.count g.row g.held.now c.if-count-lt-ARRAYS.true c.flag_of.ensures

pub returns-else-count-lt-ARRAYS : goal.returns-else-count-lt-ARRAYS
returns-else-count-lt-ARRAYS c = let g = c.args in held_kept g.own.now g.count g.row g.held.now c.if-count-lt-ARRAYS.false
