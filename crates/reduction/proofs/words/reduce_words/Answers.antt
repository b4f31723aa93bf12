-- The loop has written the reduction's words below i.
use borrow.Author.Rules.{rules}
use native.Mathlib.Omega.{arith}
use mathlib.Core.Path.{◌≡◌, refl}
use lib.ListN.{length, length-set}
use Rattle.lists.specs.Tab.{tab}
use Rattle.lists.proofs.TabLaws.{tab-more, tab-all}
use Rattle.model.specs.Reduce.{reduce}
use Rattle.reduction.proofs.words.reduce_words.Goals as goal

pub loop-i-init : goal.loop-i-init
unfolding tab
loop-i-init c = (search rules, refl)

pub loop-i-preserved : goal.loop-i-preserved
loop-i-preserved c =
    let head = c.loop-i in
    (simp length-set head.invariant.0, tab-more _ _ _ _ (omega arith) head.invariant.1 c.reduced_word.ensures)

pub returns : goal.returns
unfolding reduce
returns c =
    let head = c.loop-i in
    let stop : head.i ≡ length c.args.words.now = omega arith in
    tab-all _ _ _ head.invariant.0 (rw stop at head.invariant.1)
