-- The zeros, then the numbers.
-- Assumes nothing.
use borrow.Author.Rules.{rules}
use Rattle.calls.specs.Code.{handed}
use Rattle.calls.proofs.locals.hand_over.Goals as goal

pub returns : goal.returns
unfolding handed
returns c = (
  search rules,
  rw (
    c.copy-2.ensures,
    c.local_count-2.ensures,
    c.first_local-2.ensures,
    c.copy.ensures,
    c.local_count.ensures,
    c.first_local.ensures,
  ),
)
