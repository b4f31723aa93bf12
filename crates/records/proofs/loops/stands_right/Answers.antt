-- The row, then the loops around it, then their starts and ends.
-- Assumes nothing.
use native.Mathlib.Omega.{arith}
use mathlib.Core.Path.{sym, ◌∙◌}
use mathlib.Core.Bool.{false≢true}
use borrow.Author.Tests.{lt-leb}
use Rattle.kinds.specs.Code.{table_by}
use Rattle.records.proofs.StandLaws.{stands-past, stands-off, stands_on}
use Rattle.records.proofs.loops.stands_right.Goals as goal
use Rattle.records.proofs.loops.stands_right.Goals.{then-row-counts, else-row-counts}

pub returns-then-loops_around : goal.returns-then-loops_around
returns-then-loops_around c =
    let g = c.args in
    let t = table_by g.t.now g.counts in
    elim c.if-row-counts.branch [
      | then-row-counts w ↦
          stands_on t g.row g.«open» g.rows.now g.starts.now g.ends.now (omega (arith, w.if-row-counts.true))
          w.loops_around.ensures (sym w.value-is ∙ c.if-loops_around.true) (c.starts_within.ensures g.rows.now)
      | else-row-counts w ↦ absurd (false≢true (sym (lt-leb _ _ w.if-row-counts.false) ∙ sym w.value-is ∙ c.if-loops_around.true))
    ]

pub returns-else-loops_around : goal.returns-else-loops_around
returns-else-loops_around c =
    let g = c.args in
    let t = table_by g.t.now g.counts in
    elim c.if-row-counts.branch [
      | then-row-counts w ↦
          c.if-loops_around.false
          ∙ stands-off t g.row g.«open» g.rows.now g.starts.now g.ends.now (omega (arith, w.if-row-counts.true))
          w.loops_around.ensures (sym w.value-is ∙ c.if-loops_around.false)
      | else-row-counts w ↦
          w.value-is ∙ stands-past t g.row g.«open» g.rows.now g.starts.now g.ends.now (omega (arith, w.if-row-counts.false))
    ]
