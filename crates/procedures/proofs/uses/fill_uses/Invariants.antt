-- `uses::fill_uses` meets its contract: the nodes passed have their numbers in the buffer.
-- Assumes nothing.
use mathlib.Core.Path.{◌≡◌}
use lib.ListN.{length}
use Rattle.kinds.specs.Code.{table_in}
use Rattle.procedures.specs.Code.{Summaries}
use Rattle.procedures.proofs.uses.fill_uses.Given as goal

abbrev pub invariant-loop-n : goal.invariant-loop-n
invariant-loop-n l = (length l.uses ≡ 1024) × Summaries (table_in l.lines) l.uses l.n
