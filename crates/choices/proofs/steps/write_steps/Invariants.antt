-- By what is left of the writer on the copy, from where the machine stands.
-- Assumes nothing.
use Prim.Native.Nat.{◌-◌}
use mathlib.Core.Path.{◌≡◌}
use lib.ListN.{length}
use Rattle.choices.proofs.WriteLaws.{Left}
use Rattle.choices.proofs.steps.write_steps.Given as goal

abbrev pub invariant-loop-m : goal.invariant-loop-m
invariant-loop-m l =
    Left l.t l.own l.initial.list l.limit l.initial.m l.initial.stack l.initial.cells l.m l.stack l.cells l.list l.held l.at l.steps
    × (length l.cells ≡ length l.initial.cells) × (length l.numbers ≡ 8192)

abbrev pub decreases-loop-m : goal.decreases-loop-m
decreases-loop-m l = l.limit - l.steps
