-- The locals of a procedure that is not at work are 0 in each state of a run, since each is regular.
-- Assumes nothing.
use Rattle.model.specs.IdleLocals.{IdleLocalsZero}
use Rattle.model.proofs.EmptyClassLaws.{after-regular}

pub idle-locals-zero : IdleLocalsZero
idle-locals-zero ps m t A s C R choices g n r after = (after-regular ps m t A n s r C R choices g after).idle
