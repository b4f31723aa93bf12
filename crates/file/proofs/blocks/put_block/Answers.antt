-- The loop has written r words of the block and folded them.
use Rattle.std.proofs.Common.{◌≡◌, ◌+◌, ◌*◌, sym, refl, ◌∙◌, arith, length-set}
use Rattle.lists.specs.Tab as tab
use Rattle.lists.proofs.TabLaws.{sum_more}
use Rattle.file.specs.Layout.{body_word}
use Rattle.file.proofs.LayoutLaws.{word-plain, word-check, put-file}
use Rattle.file.proofs.blocks.put_block.Goals as goal

pub loop-r-init : goal.loop-r-init
unfolding tab.sum
loop-r-init c =
    let start : 512 * c.args.k + 0 ≡ 512 * c.args.k = omega arith in
    (c.requires.ws_len_bound.2, refl, rw start c.requires.out_value)

pub loop-r-preserved : goal.loop-r-preserved
loop-r-preserved c =
    let head = c.loop-r in
    let a = c.args in
    let put = c.put_word.ensures in
    let w = c.body_word-w in (
      rw put (simp length-set head.invariant.0),
      omega (arith, sum_more (body_word a.ws.now a.k) head.r),
      rw put (put-file _ _ _ _ _ (omega arith) (omega arith) head.invariant.2 (w.ensures ∙ sym (word-plain _ _ _ (omega arith)))),
    )

pub returns : goal.returns
returns c =
    let head = c.loop-r in
    let a = c.args in
    let put = c.put_word-2.ensures in
    let end : head.r ≡ 127 = omega arith in (
      rw put (simp length-set head.invariant.0),
      rw put (put-file _ _ 127 _ _ (omega arith) (omega arith) (rw end at head.invariant.2) (rw end at head.invariant.1 ∙ sym (word-check a.ws.now a.k))),
    )
