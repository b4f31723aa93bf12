-- One copy after another.
-- Assumes nothing.
use Rattle.prepared.proofs.OwnLaws.{copies-made}
use Rattle.prepared.proofs.own.copy_lines.Goals as goal

pub returns : goal.returns
returns c =
    copies-made _ _ _ c.copy.ensures
    c.copy-2.ensures c.copy-3.ensures
