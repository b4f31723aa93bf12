-- `sorts::counts_of` meets its contract: each count is a sum over the lines passed.
-- Assumes nothing.
use Prim.Native.Nat.{◌≤◌}
use mathlib.Core.Path.{◌≡◌}
use Rattle.model.specs.Table.{is_declaration, is_node, is_row}
use Rattle.table.specs.Code.{up_to}
use Rattle.table.proofs.sorts.counts_of.Given as goal

abbrev pub invariant-loop-i : goal.invariant-loop-i
invariant-loop-i l =
    (l.decls ≡ up_to is_declaration l.words l.i)
    × (l.nodes ≡ up_to is_node l.words l.i)
    × (l.rows ≡ up_to is_row l.words l.i)
    × ((l.decls ≤ l.i) × (l.nodes ≤ l.i) × (l.rows ≤ l.i))
