-- The node number falls.
-- Assumes nothing.
use Rattle.node_cycle.proofs.+bool_at_pointer_at_uint_at.Given as goal

abbrev pub decreases-bool_at : goal.decreases-bool_at
decreases-bool_at l = l.node

abbrev pub decreases-pointer_at : goal.decreases-pointer_at
decreases-pointer_at l = l.node

abbrev pub decreases-uint_at : goal.decreases-uint_at
decreases-uint_at l = l.node
