-- Each variable below i has its first number, and the others are 0.
-- Assumes nothing.
use mathlib.Core.Path.{◌≡◌}
use Rattle.lists.specs.Tab.{tab}
use Rattle.machine.proofs.FreshLaws.{started_to}
use Rattle.machine.proofs.Machine.fresh.Given as goal

abbrev pub invariant-loop-i : goal.invariant-loop-i
invariant-loop-i l = l.numbers ≡ tab 32 (started_to l.t l.f l.i)
