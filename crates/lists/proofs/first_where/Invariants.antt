-- No number below i passes a test that tells what the closure answers.
use Rattle.std.proofs.Common.{◌≡◌, ℕ, Bool, ◌<◌, ◌-◌}
use Rattle.lists.specs.First.{first}
use Rattle.lists.proofs.first_where.Given as goal

abbrev pub invariant-loop-i : goal.invariant-loop-i
invariant-loop-i g l =
    (test : ℕ → Bool) → ((i : ℕ) (b : Bool) → i < l.n → goal.F-post g l.holds i b → b ≡ test i) → first test 0 l.n ≡ first test l.i (l.n - l.i)
