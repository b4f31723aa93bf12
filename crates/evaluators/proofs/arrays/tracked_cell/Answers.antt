-- A tracked place has a cell, by its class; any other takes a choice (rule 3.15).
-- Assumes nothing.
use Rattle.evaluators.specs.CodeLeaves.{tracked_in}
use Rattle.evaluators.proofs.arrays.tracked_cell.Goals as goal

pub returns-then-is_tracked : goal.returns-then-is_tracked
unfolding tracked_in
returns-then-is_tracked c =
    rw (← c.is_tracked.ensures, c.if-is_tracked.true, ← c.class_in.ensures, ← c.class_in-then-is_tracked.ensures)
    (c.stored.ensures.says _)

pub returns : goal.returns
unfolding tracked_in
returns c = rw (← c.is_tracked.ensures, c.if-is_tracked.false) c.any_choice.ensures
