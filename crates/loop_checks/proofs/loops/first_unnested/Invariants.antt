-- `loops::first_unnested` meets its contract: what is sought from line 0 on is what is sought from a row on.
-- Assumes nothing.
use Prim.Native.Nat.{◌≤◌, ◌/◌}
use mathlib.Core.Path.{◌≡◌}
use lib.ListN.{length}
use Rattle.lists.specs.First.{first}
use Rattle.model.specs.Table.{open_at}
use Rattle.model.specs.Accepted.{misnested}
use Rattle.kinds.specs.Kinds.{of_row}
use Rattle.kinds.specs.Code.{table_in, first_row}
use Rattle.loop_checks.proofs.loops.first_unnested.Given as goal

abbrev pub invariant-loop-row : goal.invariant-loop-row
invariant-loop-row l =
    (l.count ≡ length (open_at (table_in l.lines) l.row))
    × (l.count ≤ l.row)
    × (let t = table_in l.lines in first (of_row (misnested t) t) 0 (length l.lines.words.now / 4) ≡ first_row (misnested t) t l.row)
