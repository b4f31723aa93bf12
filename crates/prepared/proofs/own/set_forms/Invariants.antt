-- The loop has set the forms of the variables below a.
-- Assumes nothing.

use Rattle.prepared.specs.CodeOwn.{Formed}
use Rattle.prepared.proofs.own.set_forms.Given as goal

abbrev pub invariant-loop-a : goal.invariant-loop-a
invariant-loop-a l = Formed l.t l.f l.a l.initial.own l.own
