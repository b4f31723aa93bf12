-- `types::locals_uints` meets its contract: the locals passed are uints.
-- Assumes nothing.
use Prim.Native.Nat.{◌+◌}
use mathlib.Core.Path.{◌≡◌}
use mathlib.Core.Bool.{true}
use lib.Dec.{eqb}
use Rattle.lists.specs.Tab.{all}
use Rattle.line_checks.specs.Code.{variable_type}
use Rattle.line_checks.proofs.types.locals_uints.Given as goal

abbrev pub invariant-loop-i : goal.invariant-loop-i
invariant-loop-i l = all l.i (λ j. eqb (variable_type l.words (l.a + j)) 2) ≡ true
