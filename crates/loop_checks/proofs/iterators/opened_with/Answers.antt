-- `iterators::opened_with` meets its contract: what is sought among all open loops is what is sought among those left.
-- Assumes nothing.
use Prim.Native.Nat.{◌≤◌}
use native.Mathlib.Omega.{arith}
use mathlib.Core.Path.{sym, ◌∙◌}
use Rattle.loop_checks.proofs.IteratorLaws.{kept-hit, kept-miss, kept-none}
use Rattle.loop_checks.proofs.iterators.opened_with.Goals as goal

pub returns-then-since-row : goal.returns-then-since-row
returns-then-since-row c =
    sym (c.loop-k.invariant ∙ kept-hit _ _ _ c.loop-k-test.true (rw (sym c.iterator_of.ensures) c.if-since-row.true))

pub loop-k-preserved : goal.loop-k-preserved
loop-k-preserved c = c.loop-k.invariant ∙ kept-miss _ _ _ c.loop-k-test.true (rw (sym c.iterator_of.ensures) c.if-since-row.false)

pub returns : goal.returns
returns c = let none : c.loop-k.k ≤ 0 = omega arith in sym (c.loop-k.invariant ∙ kept-none _ _ _ none)
