-- Those of the loops below are left.
-- Assumes nothing.
use Prim.Native.Nat.{ℕ}
use mathlib.Core.Path.{◌≡◌}
use mathlib.Core.List.{List}
use Rattle.calls.specs.Stack.{loops_of}
use Rattle.records.specs.Record.{starts_within}
use Rattle.records.proofs.loops.starts_within.Given as goal

abbrev pub invariant-loop-n : goal.invariant-loop-n
invariant-loop-n l = (rows : List ℕ) → starts_within (loops_of l.n rows l.starts l.ends) ≡ starts_within (loops_of l.open rows l.starts l.ends)
