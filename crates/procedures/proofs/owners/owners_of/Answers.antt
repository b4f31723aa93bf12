-- `owners::owners_of` meets its contract: the variables have the numbers that the rows passed give them.
-- Assumes nothing.
use native.Mathlib.Omega.{arith}
use mathlib.Core.Path.{◌≡◌, refl, sym, ◌∙◌}
use Rattle.kinds.specs.Code.{table_by}
use Rattle.procedures.proofs.OwnerLaws.{owners-all, owners-more, owners-none, owners-other}
use Rattle.procedures.proofs.owners.owners_of.Goals as goal
use Rattle.procedures.proofs.owners.owners_of.Goals.{then-opens_procedure, else-opens_procedure}

pub loop-row-preserved : goal.loop-row-preserved
loop-row-preserved c =
    let t = table_by c.args.words.now c.args.counts in
    let at_head = c.loop-row in
    let opens = c.opens_procedure in
    elim c.if-opens_procedure.branch [
      | then-opens_procedure w ↦ (
        rw w.owners-is w.claim.ensures.size,
        rw w.owners-is (owners-more t at_head.owners at_head.row at_head.invariant.1 _ (sym opens.ensures ∙ w.if-opens_procedure.true) w.claim.ensures),
      )
      | else-opens_procedure w ↦ (
        rw w.owners-is at_head.invariant.0,
        rw w.owners-is (owners-other t at_head.owners at_head.row at_head.invariant.1 (sym opens.ensures ∙ w.if-opens_procedure.false)),
      )
    ]

pub returns : goal.returns
returns c =
    let t = table_by c.args.words.now c.args.counts in
    let at_head = c.loop-row in
    let e : at_head.row ≡ t.rows = omega arith in
    owners-all t at_head.owners (rw e at at_head.invariant.1)

pub loop-row-init : goal.loop-row-init
loop-row-init c = (refl, owners-none _)
