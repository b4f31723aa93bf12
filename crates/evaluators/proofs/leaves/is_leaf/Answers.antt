-- By the number and the kind.
-- Assumes nothing.
use mathlib.Core.Path.{◌∙◌}
use borrow.Author.Tests.{le-leb}
use Rattle.evaluators.proofs.NodeLaws.{leaf-past, leaf-is}
use Rattle.evaluators.proofs.leaves.is_leaf.Goals as goal

pub returns-then-user-node : goal.returns-then-user-node
returns-then-user-node c = le-leb _ _ c.if-user-node.true ∙ leaf-past _ _ _ c.if-user-node.true

pub returns-else-user-node : goal.returns-else-user-node
returns-else-user-node c = leaf-is _ _ _ c.if-user-node.false
