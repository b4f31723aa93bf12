-- `loops::first_unnested` meets its contract: what is sought from line 0 on is what is sought from a row on.
-- Assumes nothing.
use borrow.Author.Rules.{rules}
use native.Mathlib.Omega.{arith}
use mathlib.Core.Path.{refl, sym, ap, ◌∙◌}
use Rattle.model.specs.Table.{open_at, row_kind, nest_of}
use Rattle.model.specs.Accepted.{misnested}
use Rattle.kinds.specs.Kinds.{nest_said}
use Rattle.kinds.specs.Code.{table_in}
use Rattle.kinds.proofs.LineLaws.{open_more, row-hit, row-miss, row-none, rows_start}
use Rattle.loop_checks.specs.Rules.{breaks11}
use Rattle.loop_checks.proofs.LoopLaws.{row_by}
use Rattle.loop_checks.proofs.loops.first_unnested.Goals as goal

pub loop-row-init : goal.loop-row-init
unfolding open_at
loop-row-init c = let t = table_in c.args.lines in
    (refl, search rules, rows_start (misnested t) t c.requires)

pub returns-then-row_breaks : goal.returns-then-row_breaks
unfolding breaks11
returns-then-row_breaks c =
    let t = table_in c.args.lines in
    let at_head = c.loop-row in
    let inside = c.loop-row-test.true in
    let nested = c.nest_of-nest in
    let nests = nested.ensures ∙ ap (λ k. nest_of (row_kind k)) c.kind_of_row.ensures in
    let breaks = row_by t at_head.row (nest_said nested.result) at_head.count nests at_head.invariant.0 in
    sym (at_head.invariant.2 ∙ row-hit (misnested t) t c.requires at_head.row inside (breaks ∙ sym c.row_breaks.ensures ∙ c.if-row_breaks.true))

pub loop-row-preserved : goal.loop-row-preserved
loop-row-preserved c =
    let t = table_in c.args.lines in
    let at_head = c.loop-row in
    let inside = c.loop-row-test.true in
    let nested = c.nest_of-nest in
    let nests = nested.ensures ∙ ap (λ k. nest_of (row_kind k)) c.kind_of_row.ensures in
    let breaks = row_by t at_head.row (nest_said nested.result) at_head.count nests at_head.invariant.0 in (
      rw (c.open_after-count.ensures.0, nests, at_head.invariant.0) (sym (open_more t at_head.row)),
      omega (arith, c.open_after-count.ensures.1),
      at_head.invariant.2
          ∙ row-miss (misnested t) t c.requires at_head.row inside (breaks ∙ sym c.row_breaks.ensures ∙ c.if-row_breaks.false),
    )

pub returns : goal.returns
unfolding breaks11
returns c =
    let t = table_in c.args.lines in
    let at_head = c.loop-row in
    sym (at_head.invariant.2 ∙ row-none (misnested t) t c.requires at_head.row c.loop-row-test.false)
