-- `uses::fill_uses` meets its contract: the nodes passed have their numbers in the buffer.
-- Assumes nothing.
use Prim.Native.Nat.{◌<◌}
use native.Mathlib.Omega.{arith}
use lib.ListN.{length, length-set}
use Rattle.kinds.specs.Code.{table_in}
use Rattle.procedures.proofs.SummaryLaws.{summaries-more}
use Rattle.procedures.proofs.uses.fill_uses.Goals as goal

pub loop-n-preserved : goal.loop-n-preserved
loop-n-preserved c =
    let t = table_in c.args.lines in
    let at_head = c.loop-n in
    let laid = c.requires.in_sorts.0 in
    let room : at_head.n < length at_head.uses = omega arith in (
      simp length-set at_head.invariant.0,
      summaries-more t laid c.requires.in_sorts.1 c.args.owners.now at_head.uses c.requires.owners.0 at_head.n
          c.loop-n-test.true at_head.invariant.1 c.line_uses.result room c.line_uses.ensures,
    )
