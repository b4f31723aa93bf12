-- One column after another.
-- Assumes nothing.
use Prim.Native.Nat.{◌+◌}
use native.Mathlib.Omega.{arith}
use Rattle.calls.proofs.StackLaws.{part-copied}
use Rattle.calls.proofs.words.take_back.Goals as goal

pub returns : goal.returns
returns c =
    let g = c.args in
    record {
      size = omega arith;
      same_rows = part-copied g.loop_rows.now g.stack.now (g.at + 6) (omega arith) (omega arith) c.copy_part.ensures;
      same_starts = part-copied g.starts.now g.stack.now (g.at + 14) (omega arith) (omega arith) c.copy_part-2.ensures;
      same_ends = part-copied g.ends.now g.stack.now (g.at + 22) (omega arith) (omega arith) c.copy_part-3.ensures;
    }
