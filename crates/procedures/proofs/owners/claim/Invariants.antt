-- `owners::claim` meets its contract: the variables passed have their new numbers, the others their old ones.
-- Assumes nothing.
use Prim.Native.Nat.{ℕ, ◌≤◌, ◌<◌}
use mathlib.Core.Path.{◌≡◌}
use lib.ListN.{length, get_or}
use Rattle.model.specs.Table.{stretch, within}
use Rattle.procedures.specs.Code.{claimed}
use Rattle.procedures.proofs.owners.claim.Given as goal

abbrev pub invariant-loop-v : goal.invariant-loop-v
invariant-loop-v l =
    (length l.owners ≡ 32)
    × ((j : ℕ) → j < l.v → get_or l.owners j 0 ≡ claimed (get_or l.initial.owners j 0) (within (stretch l.a l.count) j) l.first)
    × ((j : ℕ) → l.v ≤ j → get_or l.owners j 0 ≡ get_or l.initial.owners j 0)
