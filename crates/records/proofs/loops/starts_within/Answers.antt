-- Those of the loops below are left.
-- Assumes nothing.
use native.Mathlib.Omega.{arith}
use Prim.Native.Nat.{◌-◌}
use mathlib.Core.Path.{◌∙◌}
use Rattle.records.proofs.StandLaws.{starts-on, starts-off, starts_none}
use Rattle.records.proofs.loops.starts_within.Goals as goal

pub returns-then-word_or_zero : goal.returns-then-word_or_zero
returns-then-word_or_zero c = λ rows.
    let l = c.loop-n in
    starts-off rows _ _ l.n (l.n - 1) (omega arith) c.word_or_zero-in-loop-n.ensures c.word_or_zero.ensures
    (omega (arith, c.if-word_or_zero.true))
    ∙ l.invariant rows

pub loop-n-preserved : goal.loop-n-preserved
loop-n-preserved c = λ rows.
    let l = c.loop-n in
    starts-on rows _ _ l.n (l.n - 1) (omega arith) c.word_or_zero-in-loop-n.ensures c.word_or_zero.ensures
    (omega (arith, c.if-word_or_zero.false))
    ∙ l.invariant rows

pub returns : goal.returns
returns c = λ rows. let l = c.loop-n in starts_none rows _ _ l.n (omega arith) ∙ l.invariant rows
