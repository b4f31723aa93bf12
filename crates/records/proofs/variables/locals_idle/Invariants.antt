-- Those so far are globals, locals of what is at work, or 0.
-- Assumes nothing.
use Rattle.prepared.specs.View.{table_for}
use Rattle.procedures.specs.Code.{Owners}
use Rattle.records.proofs.VariableLaws.{Idles}
use Rattle.records.proofs.variables.locals_idle.Given as goal

abbrev pub invariant-loop-i : goal.invariant-loop-i
invariant-loop-i l = Owners (table_for l.t l.fn.f) l.owners × Idles l.t l.fn.f l.m l.i
