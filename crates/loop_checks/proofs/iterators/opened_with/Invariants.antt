-- `iterators::opened_with` meets its contract: what is sought among all open loops is what is sought among those left.
-- Assumes nothing.
use mathlib.Core.Path.{◌≡◌}
use lib.ListN.{length}
use Rattle.kinds.specs.Code.{table_in}
use Rattle.loop_checks.specs.Rules.{any, opened_with}
use Rattle.loop_checks.specs.Code.{kept_rows}
use Rattle.loop_checks.proofs.iterators.opened_with.Given as goal

abbrev pub invariant-loop-k : goal.invariant-loop-k
invariant-loop-k l =
    any (opened_with (table_in l.lines) l.since l.iterator') (kept_rows l.opened (length l.opened))
    ≡ any (opened_with (table_in l.lines) l.since l.iterator') (kept_rows l.opened l.k)
