-- The loop has added the counts of k blocks, each below two to the thirty-second.
use Rattle.std.proofs.Common.{◌≡◌, ◌*◌, ◌^◌, ◌≤◌}
use Rattle.lists.specs.Tab.{sum}
use Rattle.file.specs.Reading.{word}
use Rattle.file.proofs.checks.lines_in_all.Given as goal

abbrev pub invariant-loop-k : goal.invariant-loop-k
invariant-loop-k l = (l.total ≤ 2 ^ 32 * l.k) × (l.total ≡ sum l.k (λ j. word l.bytes j 125))
