-- The loop has written the reduction's words below i.
use mathlib.Core.Path.{◌≡◌}
use lib.ListN.{length, take}
use Rattle.lists.specs.Tab.{tab}
use Rattle.model.specs.Reduce.{reduced_word}
use Rattle.reduction.proofs.words.reduce_words.Given as goal

abbrev pub invariant-loop-i : goal.invariant-loop-i
invariant-loop-i l = (length l.out ≡ length l.words) × (take l.i l.out ≡ tab l.i (reduced_word l.words))
