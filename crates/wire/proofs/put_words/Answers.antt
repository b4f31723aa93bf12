-- Word by word.
use Rattle.std.proofs.Common.{arith}
use Rattle.lists.proofs.TabLaws.{tab-none, tab-more}
use Rattle.wire.proofs.put_words.Goals as goal

pub loop-i-init : goal.loop-i-init
loop-i-init c = tab-none _ c.args.words.now

pub loop-i-preserved : goal.loop-i-preserved
loop-i-preserved c = tab-more _ _ _ _ (omega arith) c.loop-i.invariant c.word.ensures
