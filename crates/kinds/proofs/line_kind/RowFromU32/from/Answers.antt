-- `from` of `Row` meets its contract: no other number names a row.
-- Assumes nothing.
use native.Mathlib.Omega.{arith}
use mathlib.Core.Path.{sym}
use Rattle.kinds.proofs.KindLaws.{row_unknown}
use Rattle.kinds.proofs.line_kind.RowFromU32.from.Goals as goal

pub returns-in_default : goal.returns-in_default
returns-in_default c = sym (row_unknown c.args.word (λ h. omega arith))
