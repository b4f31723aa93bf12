-- The four words of the line, taken apart.
-- Assumes nothing.
use Rattle.evaluators.proofs.NodeLaws.{node-read}
use Rattle.evaluators.proofs.nodes.node_at.Goals as goal

pub returns : goal.returns
returns c =
    node-read _ _ c.make.ensures c.wide.ensures c.wide-2.ensures c.wide-3.ensures
