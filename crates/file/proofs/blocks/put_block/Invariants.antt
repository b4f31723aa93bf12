-- The loop has written r words of the block and folded them.
use Rattle.std.proofs.Common.{◌≡◌, ◌+◌, ◌*◌, ◌%◌, ◌^◌, length, take}
use Rattle.lists.specs.Tab as tab
use Rattle.file.specs.Layout.{body_word, file_byte}
use Rattle.file.proofs.blocks.put_block.Given as goal

abbrev pub invariant-loop-r : goal.invariant-loop-r
invariant-loop-r l =
    (length l.out ≡ 22016)
    × (l.sum ≡ tab.sum l.r (body_word l.ws l.k) % 2 ^ 32)
    × (take (512 * l.k + 4 * l.r) l.out ≡ tab.tab (512 * l.k + 4 * l.r) (file_byte l.ws))
