-- The loop has filled the words below i: word i is the one at its place in block k.
use Rattle.std.proofs.Common.{◌≡◌, ◌+◌, ◌-◌, ◌*◌, ◌/◌, ◌%◌, ap, ◌∙◌, arith}
use Rattle.lists.proofs.TabLaws.{tab-more}
use Rattle.file.specs.Word.{word_at}
use Rattle.file.specs.Reading.{table_word}
use Rattle.file.proofs.fill.fill_block.Goals as goal

pub loop-i-preserved : goal.loop-i-preserved
loop-i-preserved c =
    let head = c.loop-i in
    let a = c.args in
    let place : 512 * a.k + 4 * (head.i - 124 * a.k) ≡ 512 * (head.i / 124) + 4 * (head.i % 124) = omega arith in
    let read = c.word_at.ensures ∙ ap (word_at a.bytes.now) place in
    tab-more (table_word a.bytes.now) _ _ _ (omega arith) head.invariant read
