-- `rows::first_row` meets its contract: what is sought from line 0 on is what is sought from a row on, with what was met before it.
-- Assumes nothing.
use Prim.Native.Nat.{◌/◌}
use mathlib.Core.Path.{◌≡◌}
use mathlib.Core.Bool.{not}
use lib.ListN.{length}
use Rattle.lists.specs.First.{first}
use Rattle.model.specs.Procedures.{keeps_procedures}
use Rattle.kinds.specs.Kinds.{of_row}
use Rattle.kinds.specs.Code.{table_in, first_row}
use Rattle.procedures.specs.Code.{MetBefore}
use Rattle.procedures.proofs.rows.first_row.Given as goal

abbrev pub invariant-loop-row : goal.invariant-loop-row
invariant-loop-row l =
    MetBefore (table_in l.lines) l.met l.row
    × (let t = table_in l.lines in
    first (of_row (λ r. not (keeps_procedures t r)) t) 0 (length l.lines.words.now / 4) ≡ first_row (λ r. not (keeps_procedures t r)) t l.row)
