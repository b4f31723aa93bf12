-- `types::fill_types` meets its contract: the nodes passed have their types in the buffer.
-- Assumes nothing.
use mathlib.Core.Path.{◌≡◌}
use lib.ListN.{length}
use Rattle.kinds.specs.Code.{table_in}
use Rattle.line_checks.specs.Code.{Types}
use Rattle.line_checks.proofs.types.fill_types.Given as goal

abbrev pub invariant-loop-n : goal.invariant-loop-n
invariant-loop-n l = (length l.types ≡ 1024) × Types (table_in l.lines) l.types l.n
