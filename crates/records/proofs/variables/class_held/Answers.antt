-- The candidate is a number of 32 bits, and has the class or another; or it is too large.
-- Assumes nothing.
use native.Mathlib.Omega.{arith}
use Rattle.std.proofs.lemmas.Bool.Decides.{nat_tests}
use Rattle.records.proofs.VariableLaws.{held-not, held-is}
use Rattle.records.proofs.variables.class_held.Goals as goal

pub returns-in_default : goal.returns-in_default
returns-in_default c = held-not _ _ _ c.candidate_of.ensures (omega (arith, c.in_default.ensures))

pub returns : goal.returns
returns c =
    let same = c.in-Ok.ensures.1 in
    let held = held-is _ _ _ c.candidate_of.ensures (omega (arith, c.in-Ok.ensures.0)) (rw same at c.class_of-found.ensures) in
    grind (arith, nat_tests)
