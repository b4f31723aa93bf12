-- The words below i are put.
use Rattle.std.proofs.Common.{take, ◌≡◌, ◌*◌}
use Rattle.lists.specs.Tab.{tab}
use Rattle.wire.specs.Messages.{word_or_zero}
use Rattle.wire.proofs.put_words.Given as goal

abbrev pub invariant-loop-i : goal.invariant-loop-i
invariant-loop-i l = take l.i l.words ≡ tab l.i (λ j. word_or_zero l.s (j * 4))
