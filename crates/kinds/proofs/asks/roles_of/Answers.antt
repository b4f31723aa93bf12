-- `roles_of` meets its contract: the table is the model's.
-- Assumes nothing.
use Rattle.kinds.proofs.KindLaws.{roles-at, roles-past}
use Rattle.kinds.proofs.asks.roles_of.Goals as goal

pub returns-then-k-lt46 : goal.returns-then-k-lt46
returns-then-k-lt46 c = roles-at c.args.kind _ c.if-k-lt46.true

pub returns-else-k-lt46 : goal.returns-else-k-lt46
returns-else-k-lt46 c = roles-past c.args.kind c.if-k-lt46.false
