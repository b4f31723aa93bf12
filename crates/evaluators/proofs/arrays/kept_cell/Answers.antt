-- By the array's shape and the kind that reads.
-- Assumes nothing.
use mathlib.Core.Path.{sym, ap}
use lib.ListN.{drop}
use Rattle.prepared.specs.Own.{places_of}
use Rattle.evaluators.specs.CodeLeaves.{read_of, stored_in, tracked_in}
use Rattle.evaluators.proofs.AnswerLaws.{says_same}
use Rattle.evaluators.proofs.ViewLaws.{read_plain}
use Rattle.evaluators.proofs.arrays.kept_cell.Goals as goal

pub returns-then-tracking : goal.returns-then-tracking
unfolding read_of tracked_in stored_in
returns-then-tracking c = rw (c.if-reduced.true, c.if-tracking.true) c.tracked_cell.ensures

pub returns-then-reduced : goal.returns-then-reduced
unfolding read_of stored_in
returns-then-reduced c = rw (c.if-reduced.true, c.if-tracking.false, ← c.class_in.ensures) (c.stored.ensures.says _)

pub returns : goal.returns
returns c =
    let g = c.args in
    rw c.if-reduced.false (says_same (c.stored-2.ensures.says _)
    (sym (ap (λ m. m (drop g.at g.inputs.now.list.now)) (read_plain g.tracking (places_of g.inputs.now.own.now) _ _ _ _))))
