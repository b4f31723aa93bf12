-- The candidates of a pair, class by class.
-- Assumes nothing.
use native.Mathlib.Omega.{arith}
use Rattle.model.specs.Class.{candidate}
use Rattle.records.proofs.VariableLaws.{after_first, past-both}
use borrow.Author.Rules.{rules}
use Rattle.records.proofs.variables.candidate_of.Goals as goal

pub returns-in-0 : goal.returns-in-0
unfolding candidate
returns-in-0 c = search rules

pub returns-in-1 : goal.returns-in-1
unfolding candidate
returns-in-1 c = search rules

pub returns-in-2 : goal.returns-in-2
returns-in-2 c = rw c.from-in-2.ensures (after_first _ _ _ (omega arith))

pub returns-in-3 : goal.returns-in-3
unfolding candidate
returns-in-3 c = search rules

pub returns-in_default : goal.returns-in_default
returns-in_default c = rw c.from-in_default.ensures (past-both _ _ _ (omega arith))
