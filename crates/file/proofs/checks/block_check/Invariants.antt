-- The loop has folded r words: their sum, modulo two to the thirty-second.
use Rattle.std.proofs.Common.{◌≡◌, ◌%◌, ◌^◌}
use Rattle.lists.specs.Tab as tab
use Rattle.file.specs.Reading.{word}
use Rattle.file.proofs.checks.block_check.Given as goal

abbrev pub invariant-loop-r : goal.invariant-loop-r
invariant-loop-r l = l.sum ≡ tab.sum l.r (word l.bytes l.k) % 2 ^ 32
