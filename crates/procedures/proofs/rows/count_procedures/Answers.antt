-- `rows::count_procedures` meets its contract: so many opened among the rows passed.
-- Assumes nothing.
use borrow.Author.Rules.{rules}
use native.Mathlib.Omega.{arith}
use mathlib.Core.Path.{sym}
use Rattle.kinds.specs.Code.{table_in}
use Rattle.kinds.proofs.LineLaws.{byte-is, byte-most}
use Rattle.procedures.proofs.MapLaws.{opened-more, opened-none}
use Rattle.procedures.proofs.rows.count_procedures.Goals as goal

pub loop-row-init : goal.loop-row-init
loop-row-init c =
    (search rules, sym (opened-none (table_in c.args.lines)))

pub loop-row-preserved : goal.loop-row-preserved
loop-row-preserved c =
    let t = table_in c.args.lines in
    let at_head = c.loop-row in
    let opens = c.opens_procedure in (
      omega (arith, c.from-opened.ensures, byte-most opens.result),
      rw (c.from-opened.ensures, byte-is opens.result, opens.ensures, c.kind_of_row.ensures, at_head.invariant.1) (sym (opened-more t at_head.row)),
    )
