-- `from` of `Node` meets its contract: no other number names a node.
-- Assumes nothing.
use native.Mathlib.Omega.{arith}
use mathlib.Core.Path.{sym}
use Rattle.kinds.proofs.KindLaws.{node_unknown}
use Rattle.kinds.proofs.line_kind.NodeFromU32.from.Goals as goal

pub returns-in_default : goal.returns-in_default
returns-in_default c = sym (node_unknown c.args.word (λ h. omega arith))
