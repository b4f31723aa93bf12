-- `rows::first_row` meets its contract: what is sought from line 0 on is what is sought from a row on, with what was met before it.
-- Assumes nothing.
use mathlib.Core.Path.{sym, ap, ◌∙◌}
use mathlib.Core.Bool.{not}
use Rattle.model.specs.Procedures.{keeps_procedures}
use Rattle.kinds.specs.Code.{table_in}
use Rattle.kinds.proofs.LineLaws.{row-hit, row-miss, row-none, rows_start}
use Rattle.procedures.specs.Misplaced.{breaks17}
use Rattle.procedures.specs.Code.{met_after}
use Rattle.procedures.proofs.RowLaws.{met-more, met-none}
use Rattle.procedures.proofs.rows.first_row.Goals as goal

pub loop-row-init : goal.loop-row-init
loop-row-init c =
    let t = table_in c.args.lines in
    (met-none t, rows_start (λ r. not (keeps_procedures t r)) t c.requires.in_sorts.0)

pub returns-then-row_misplaced : goal.returns-then-row_misplaced
unfolding breaks17
returns-then-row_misplaced c =
    let t = table_in c.args.lines in
    let at_head = c.loop-row in
    sym (at_head.invariant.1 ∙ row-hit (λ r. not (keeps_procedures t r)) t c.requires.in_sorts.0 at_head.row c.loop-row-test.true
    (sym c.row_misplaced.ensures ∙ c.if-row_misplaced.true))

pub loop-row-preserved : goal.loop-row-preserved
loop-row-preserved c =
    let t = table_in c.args.lines in
    let at_head = c.loop-row in
    let next = c.met_after-met in
    let is = next.ensures.0 ∙ ap (λ k. met_after at_head.met k at_head.row) c.kind_of_row.ensures in (
      met-more t at_head.met at_head.row at_head.invariant.0 next.result is next.ensures.1 next.ensures.2 next.ensures.3,
      at_head.invariant.1
          ∙ row-miss (λ r. not (keeps_procedures t r)) t c.requires.in_sorts.0 at_head.row c.loop-row-test.true
          (sym c.row_misplaced.ensures ∙ c.if-row_misplaced.false),
    )

pub returns : goal.returns
unfolding breaks17
returns c =
    let t = table_in c.args.lines in
    let at_head = c.loop-row in
    sym (at_head.invariant.1 ∙ row-none (λ r. not (keeps_procedures t r)) t c.requires.in_sorts.0 at_head.row c.loop-row-test.false)
