-- `rows::row_misplaced` meets its contract: what the calls find is what the definition says of the row.
-- Assumes nothing.
use native.Mathlib.Omega.{arith}
use Rattle.kinds.specs.Code.{table_in}
use Rattle.kinds.proofs.LineLaws.{locals-fit}
use Rattle.procedures.proofs.RowLaws.{misplaced-by}
use Rattle.procedures.proofs.rows.row_misplaced.Goals as goal

pub rule_kept-kept-requires : goal.rule_kept-kept-requires
rule_kept-kept-requires c =
    let t = table_in c.args.lines in (
      omega (arith, c.requires.in_sorts.0.whole),
      omega (arith, c.requires.in_sorts.0.few_rows),
      locals-fit t c.requires.in_sorts.0 c.requires.in_sorts.1 c.args.row c.requires.row_lt_rows.0,
    )

pub returns : goal.returns
returns c =
    let t = table_in c.args.lines in
    let kept = misplaced-by t c.args.met c.args.row c.requires.row_lt_rows.1 c.requires.in_sorts.0 c.requires.in_sorts.1 c.args.owners.now
    c.args.uses.now c.requires.owners.0 c.requires.owners.1 c.requires.row_lt_rows.0 c.args.total c.requires.total_value in
    rw (kept, c.is_own.ensures, c.line_uses-used.ensures, c.rule_kept-kept.ensures)
