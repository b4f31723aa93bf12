-- Those so far fit.
-- Assumes nothing.
use Rattle.records.proofs.VariableLaws.{Fits}
use Rattle.records.proofs.variables.variables_fit.Given as goal

abbrev pub invariant-loop-i : goal.invariant-loop-i
invariant-loop-i l = Fits l.t l.f l.m l.i
