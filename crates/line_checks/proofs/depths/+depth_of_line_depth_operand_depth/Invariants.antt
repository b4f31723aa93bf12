-- The depth of a node and those of its operands: the node number falls, and after it the order of the three.
-- Assumes nothing.
use Rattle.std.proofs.Common.{◌+◌, ◌*◌}
use Rattle.line_checks.proofs.depths.+depth_of_line_depth_operand_depth.Given as goal

abbrev pub decreases-depth_of : goal.decreases-depth_of
decreases-depth_of l = 3 * l.node + 2

abbrev pub decreases-line_depth : goal.decreases-line_depth
decreases-line_depth l = 3 * l.node + 1

abbrev pub decreases-operand_depth : goal.decreases-operand_depth
decreases-operand_depth l = 3 * l.node
