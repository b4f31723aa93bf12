-- The loop has put the bytes of the word that it has passed.
-- Assumes nothing.
use mathlib.Core.Path.{refl, ◌∙◌}
use native.Mathlib.Omega.{arith}
use Rattle.text.proofs.TextLaws.{word_none, word_more}
use Rattle.text.proofs.put_word.Goals as goal

pub loop-b-init : goal.loop-b-init
loop-b-init c = (word_none _ _, refl)

pub loop-b-preserved : goal.loop-b-preserved
loop-b-preserved c = (
  word_more c.args.word.now c.loop-b.b-index (omega arith) c.loop-b.invariant.0 c.push-next.ensures,
  c.push-next.auto.out ∙ c.loop-b.invariant.1,
)
