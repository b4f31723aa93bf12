-- The loop has put the bytes of the word that it has passed.
-- Assumes nothing.
use mathlib.Core.Path.{◌≡◌}
use lib.ListN.{length, take}
use Rattle.text.specs.CodePuts.{Puts}
use Rattle.text.proofs.put_word.Given as goal

abbrev pub invariant-loop-b : goal.invariant-loop-b
invariant-loop-b l = Puts (take l.b-index l.word) l.initial.out l.at l.out l.next × (length l.out ≡ length l.initial.out)
