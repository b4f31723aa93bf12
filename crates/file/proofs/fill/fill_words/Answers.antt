-- The loop has filled k blocks, or all n words.
use Rattle.std.proofs.Common.{◌≡◌, min, arith}
use Rattle.lists.proofs.TabLaws.{tab-none}
use Rattle.file.proofs.fill.fill_words.Goals as goal

pub loop-k-init : goal.loop-k-init
loop-k-init c = let none : min c.args.n 0 ≡ 0 = omega arith in rw none (search tab-none)
