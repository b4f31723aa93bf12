-- By what is left of the run on the copy, from where the machine stands.
-- Assumes nothing.
use mathlib.Core.Path.{◌≡◌}
use Prim.Native.Nat.{◌-◌}
use lib.ListN.{length}
use Rattle.runs.proofs.ReadyLaws.{Left}
use Rattle.runs.proofs.steps.run_steps.Given as goal

abbrev pub invariant-loop-m : goal.invariant-loop-m
invariant-loop-m l =
    Left l.t l.own l.list l.limit l.initial.m l.initial.stack l.initial.cells l.m l.stack l.cells l.at l.steps × (length l.cells ≡ length l.initial.cells)

abbrev pub decreases-loop-m : goal.decreases-loop-m
decreases-loop-m l = l.limit - l.steps
