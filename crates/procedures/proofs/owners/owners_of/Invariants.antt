-- `owners::owners_of` meets its contract: the variables have the numbers that the rows passed give them.
-- Assumes nothing.
use mathlib.Core.Path.{◌≡◌}
use lib.ListN.{length}
use Rattle.kinds.specs.Code.{table_by}
use Rattle.procedures.proofs.OwnerLaws.{OwnersBefore}
use Rattle.procedures.proofs.owners.owners_of.Given as goal

abbrev pub invariant-loop-row : goal.invariant-loop-row
invariant-loop-row l = (length l.owners ≡ 32) × OwnersBefore (table_by l.words l.counts) l.owners l.row
