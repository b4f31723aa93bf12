-- The sum so far is that of the arrays so far.
-- Assumes nothing.
use native.Mathlib.Omega.{arith}
use Rattle.row_kinds.proofs.LayLaws.{used-none, used-more}
use borrow.Author.Rules.{rules}
use Rattle.row_variables.proofs.arrays.used_in.Goals as goal

pub loop-i-init : goal.loop-i-init
loop-i-init c = (used-none _ _ _, search rules)

pub loop-i-preserved : goal.loop-i-preserved
loop-i-preserved c =
    let l = c.loop-i in
    (used-more _ _ _ _ l.invariant.0 c.size_for-size.ensures, omega arith)
