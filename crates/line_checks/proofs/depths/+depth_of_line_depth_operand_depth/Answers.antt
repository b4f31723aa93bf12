-- The depth of a node and those of its operands: the node number falls, and each depth is kept once it is worked out.
-- Assumes nothing.
use native.Mathlib.Omega.{arith}
use Rattle.kinds.specs.Code.{table_in}
use Rattle.line_checks.proofs.DepthLaws.{depth_is, depth-most}
use Rattle.line_checks.proofs.depths.+depth_of_line_depth_operand_depth.Goals as goal

pub depth_of-returns-then-kept-ne0-clause-value : goal.depth_of-returns-then-kept-ne0-clause-value
depth_of-returns-then-kept-ne0-clause-value t c =
    let table = table_in c.args.lines in
    let kept = c.requires.depths_len.2.right c.args.node c.requires.depths_len.1 c.if-kept-ne0.true in
    (kept, omega (arith, kept, depth-most table c.args.node))

pub line_depth-returns-clause-value : goal.line_depth-returns-clause-value
line_depth-returns-clause-value t c =
    let table = table_in c.args.lines in (
      rw (
        c.max-2.ensures,
        c.max.ensures,
        c.operand_depth-c.ensures.value.0,
        c.operand_depth-b.ensures.value.0,
        c.operand_depth-a.ensures.value.0,
      ) (depth_is table c.requires.in_sorts c.args.node c.requires.depths_len.1 _ c.roles_of-roles.ensures),
      omega (
        arith,
        c.max-2.ensures,
        c.max.ensures,
        c.operand_depth-c.ensures.value.1,
        c.operand_depth-b.ensures.value.1,
        c.operand_depth-a.ensures.value.1,
      ),
    )
