-- The caller is put aside, the last word says that there is one more, and the locals are handed over.
-- Assumes nothing.
use Rattle.calls.proofs.CallLaws.{called}
use Rattle.calls.proofs.call.Goals as goal

pub returns : goal.returns
returns c =
    let home = c.home_at-from.ensures in
    let put = c.put_aside.ensures in
    called _ _ c.requires.0 _ _ _ c.requires.1 _ _ _ _ _ _ put.0 home c.home_at.ensures
    c.first_local.ensures c.local_count.ensures put.1
    c.hand_over.ensures.1
