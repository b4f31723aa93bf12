-- Each answer is the branch that the library's method chose.
-- Assumes nothing.
use native.Mathlib.Omega.{arith}
use Prim.Native.Nat.{◌+◌, ◌≤◌, ◌<◌}
use borrow.Author.Tests.{le-leb, lt-leb}
use Rattle.model.specs.Table.Ty.{uint}
use Rattle.evaluators.specs.CodeLeaves.{arith as arith_of}
use Rattle.evaluators.proofs.AnswerLaws.{said-uint, said-fails}
use Rattle.evaluators.proofs.answers.computed.Goals as goal

pub returns-in-Some : goal.returns-in-Some
unfolding arith_of
returns-in-Some c = record { says = λ l. said-uint (rw (c.if-minus.true, c.in-Some.ensures.1, le-leb _ _ c.in-Some.ensures.0)) }

pub returns-in-None : goal.returns-in-None
unfolding arith_of
returns-in-None c =
    let h : c.args.v < c.args.w = omega (arith, c.in-None.ensures) in
    record { says = λ l. said-fails uint _ (rw (c.if-minus.true, lt-leb _ _ h)) }

pub returns-in-Some-checked_add : goal.returns-in-Some-checked_add
unfolding arith_of
returns-in-Some-checked_add c =
    let sum = c.in-Some-checked_add.ensures in
    let h : c.args.v + c.args.w ≤ 4294967295 = omega (arith, sum.0) in
    record { says = λ l. said-uint (rw (c.if-minus.false, sum.1, le-leb _ _ h)) }

pub returns-in-None-checked_add : goal.returns-in-None-checked_add
unfolding arith_of
returns-in-None-checked_add c =
    let h : 4294967295 < c.args.v + c.args.w = omega (arith, c.in-None-checked_add.ensures) in
    record { says = λ l. said-fails uint _ (rw (c.if-minus.false, lt-leb _ _ h)) }
