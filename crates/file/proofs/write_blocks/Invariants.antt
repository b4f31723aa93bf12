-- The loop has written k blocks.
use Rattle.std.proofs.Common.{◌≡◌, ◌*◌, length, take}
use Rattle.lists.specs.Tab.{tab}
use Rattle.file.specs.Layout.{file_byte}
use Rattle.file.proofs.write_blocks.Given as goal

abbrev pub invariant-loop-k : goal.invariant-loop-k
invariant-loop-k l = (length l.out ≡ 22016) × (take (512 * l.k) l.out ≡ tab (512 * l.k) (file_byte l.ws))
