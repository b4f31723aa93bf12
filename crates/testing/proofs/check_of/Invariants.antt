-- The check number of what is left, from the one so far, is that of all.
use Rattle.std.proofs.Common.{◌≡◌, ℕ, map, drop}
use Rattle.testing.specs.Checks.{check_from, check_number}
use Rattle.testing.proofs.check_of.Given as goal

abbrev pub invariant-loop-x : goal.invariant-loop-x
invariant-loop-x g l =
    (word : _ → ℕ) → ((x : _) (w : ℕ) → g.T.Into.converts x w → w ≡ word x) → check_from l.h (map word (drop l.x-index l.s)) ≡ check_number (map word l.s)
