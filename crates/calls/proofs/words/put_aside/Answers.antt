-- The words one after another.
-- Assumes nothing.
use native.Mathlib.Omega.{arith}
use Rattle.calls.specs.Code.{aside}
use Rattle.calls.proofs.words.put_aside.Goals as goal

pub returns : goal.returns
unfolding aside
returns c = (
  record {
    of_stack = omega arith;
    of_numbers = omega arith;
    of_rows = omega arith;
    of_starts = omega arith;
    of_ends = omega arith;
  },
  rw (
    c.copy-3.ensures,
    c.copy-2.ensures,
    c.copy.ensures,
    c.copy_part.ensures,
  ),
)
