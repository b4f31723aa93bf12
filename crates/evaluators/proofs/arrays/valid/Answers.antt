-- By the array that the pointer points to.
-- Assumes nothing.
use lib.ListN.{drop}
use Rattle.model.specs.Table.Ty.{bool}
use Rattle.evaluators.specs.CodeLeaves.{target_out}
use Rattle.evaluators.proofs.AnswerLaws.{said-bool, said-stuck}
use Rattle.evaluators.proofs.ViewLaws.{valid-by}
use Rattle.evaluators.proofs.arrays.valid.Goals as goal

pub returns-in-Array : goal.returns-in-Array
unfolding target_out
returns-in-Array c =
    let at = c.args.at in
    record { says = λ l. said-bool (rw (valid-by _ _ _ (drop at l), ← c.pointed-x.ensures.found (drop at l), c.in-Array.is)) }

pub returns-in-Missing : goal.returns-in-Missing
unfolding target_out
returns-in-Missing c =
    let at = c.args.at in
    record { says = λ l. said-bool (rw (valid-by _ _ _ (drop at l), ← c.pointed-x.ensures.found (drop at l), c.in-Missing.is)) }

pub returns-in-Unknown : goal.returns-in-Unknown
unfolding target_out
returns-in-Unknown c =
    let at = c.args.at in
    record { says = λ l. said-stuck bool (rw (valid-by _ _ _ (drop at l), ← c.pointed-x.ensures.found (drop at l), c.in-Unknown.is)) }
