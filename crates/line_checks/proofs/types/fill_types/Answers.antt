-- `types::fill_types` meets its contract: the nodes passed have their types in the buffer.
-- Assumes nothing.
use Prim.Native.Nat.{◌<◌}
use native.Mathlib.Omega.{arith}
use lib.ListN.{length, length-set}
use Rattle.kinds.specs.Code.{table_in}
use Rattle.line_checks.proofs.TypeLaws.{types_more}
use Rattle.line_checks.proofs.types.fill_types.Goals as goal

pub loop-n-preserved : goal.loop-n-preserved
loop-n-preserved c =
    let t = table_in c.args.lines in
    let at_head = c.loop-n in
    let room : at_head.n < length at_head.types = omega arith in
    let found = c.line_type in
    (simp length-set at_head.invariant.0, types_more t at_head.types at_head.n at_head.invariant.1 found.result room found.ensures)
