-- Each answer is the branch of the definition that its tests choose.
-- Assumes nothing.
use borrow.Author.Tests.{lt-ltb, le-ltb}
use Rattle.model.specs.Table.Ty.{uint}
use Rattle.evaluators.specs.CodeLeaves.{stored_in}
use Rattle.evaluators.proofs.AnswerLaws.{said-uint, said-stuck}
use Rattle.evaluators.proofs.arrays.stored.Goals as goal

pub returns-then-size-i : goal.returns-then-size-i
unfolding stored_in
returns-then-size-i c = record { says = λ l. said-stuck uint (rw (le-ltb _ _ c.if-size-i.true)) }

pub returns-then-p-cells : goal.returns-then-p-cells
unfolding stored_in
returns-then-p-cells c = record { says = λ l. said-uint (rw (lt-ltb _ _ c.if-size-i.false, lt-ltb _ _ c.if-p-cells.true)) }

pub returns : goal.returns
unfolding stored_in
returns c = record { says = λ l. said-stuck uint (rw (lt-ltb _ _ c.if-size-i.false, le-ltb _ _ c.if-p-cells.false)) }
