-- The sum by the library's method.
-- Assumes nothing.
use native.Mathlib.Omega.{arith}
use Prim.Native.Nat.{◌+◌, ◌≤◌, ◌<◌}
use borrow.Author.Tests.{le-leb, lt-leb}
use Rattle.model.specs.Table.Ty.{uint}
use Rattle.evaluators.proofs.AnswerLaws.{said-uint, said-fails}
use Rattle.evaluators.proofs.answers.next_start.Goals as goal

pub returns-in-Some : goal.returns-in-Some
returns-in-Some c =
    let sum = c.in-Some.ensures in
    let h : c.args.v + 1 ≤ 4294967295 = omega (arith, sum.0) in
    record { says = λ l. said-uint (rw (sum.1, le-leb _ _ h)) }

pub returns-in-None : goal.returns-in-None
returns-in-None c =
    let h : 4294967295 < c.args.v + 1 = omega (arith, c.in-None.ensures) in
    record { says = λ l. said-fails uint _ (rw (lt-leb _ _ h)) }
