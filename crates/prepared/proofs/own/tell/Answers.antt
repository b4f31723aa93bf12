-- What the run is told, word by word.
-- Assumes nothing.
use Rattle.prepared.specs.CodeOwn.{told}
use Rattle.prepared.proofs.FormLaws.{flag-number}
use Rattle.prepared.proofs.own.tell.Goals as goal

pub returns : goal.returns
unfolding told
returns c = rw (c.from.ensures, flag-number c.args.f.classes)
