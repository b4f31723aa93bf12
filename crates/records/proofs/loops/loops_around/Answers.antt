-- What is left is compared with the loops before the row that the walk has come to.
-- Assumes nothing.
use native.Mathlib.Omega.{arith}
use Prim.Native.Nat.{◌-◌}
use mathlib.Core.Path.{◌∙◌, ap}
use Rattle.model.specs.Table.{nest_of, row_kind}
use Rattle.kinds.specs.Code.{table_by}
use Rattle.records.proofs.StandLaws.{around-most, around-next, around-off, around-done}
use Rattle.records.proofs.loops.loops_around.Goals as goal

pub returns-in_default : goal.returns-in_default
returns-in_default c =
    let g = c.args in
    let l = c.loop-i in
    let e = c.nest_of-nest.ensures ∙ ap (λ k. nest_of (row_kind k)) c.word_or_zero.ensures in
    around-off (table_by g.t.now g.counts) g.row g.«open» g.rows.now _ _ l.i (l.i - 1) l.invariant.1 (omega arith) _ e _
    c.passed.ensures c.in_default.is

pub loop-i-preserved : goal.loop-i-preserved
loop-i-preserved c =
    let g = c.args in
    let l = c.loop-i in
    let t = table_by g.t.now g.counts in
    let e = c.nest_of-nest.ensures ∙ ap (λ k. nest_of (row_kind k)) c.word_or_zero.ensures in
    let b = around-most t g.row g.«open» g.rows.now _ _ l.i (l.i - 1) l.invariant.1 (omega arith) _ e _ c.passed.ensures
    c.in-Some.is in (
      omega (arith, b),
      around-next t g.row g.«open» g.rows.now _ _ l.i (l.i - 1) l.invariant.1 (omega arith) _ e _
          c.passed.ensures c.in-Some.is,
    )

pub returns : goal.returns
returns c =
    let g = c.args in
    let l = c.loop-i in
    around-done (table_by g.t.now g.counts) g.row g.«open» g.rows.now l.closed l.left l.i l.invariant.1 (omega arith)
