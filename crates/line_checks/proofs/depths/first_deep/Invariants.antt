-- `depths::first_deep` meets its contract: what is sought from 0 on is what is sought from `i` on, and what is kept stays right.
-- Assumes nothing.
use Prim.Native.Nat.{◌-◌, ◌/◌}
use mathlib.Core.Path.{◌≡◌}
use lib.ListN.{length}
use Rattle.lists.specs.First.{first}
use Rattle.kinds.specs.Code.{table_in}
use Rattle.line_checks.specs.Rules.{breaks10}
use Rattle.line_checks.specs.Code.{Kept}
use Rattle.line_checks.proofs.depths.first_deep.Given as goal

abbrev pub invariant-loop-i : goal.invariant-loop-i
invariant-loop-i l =
    (length l.depths ≡ 1024) × Kept (table_in l.lines) l.depths
    × (first (breaks10 (table_in l.lines)) 0 (length l.lines.words.now / 4) ≡ first (breaks10 (table_in l.lines)) l.i (length l.lines.words.now / 4 - l.i))
