-- By the form of the variable.
-- Assumes nothing.
use Rattle.evaluators.proofs.ViewLaws.{holds-out, holds-bool, holds-no-bool, holds-none-bool}
use Rattle.evaluators.proofs.leaves.bool_variable.Goals as goal

pub returns-then-own-a : goal.returns-then-own-a
returns-then-own-a c = holds-out _ _ _ _ _ c.if-own-a.true

pub returns-in_default : goal.returns-in_default
returns-in_default c =
    holds-none-bool _ _ _ _ c.if-own-a.false c.form_at-form.ensures c.in_default.not-Bool

pub returns-then-x-le1 : goal.returns-then-x-le1
returns-then-x-le1 c =
    holds-bool _ _ _ _ c.if-own-a.false c.form_at-form.ensures c.in-Bool.is c.if-x-le1.true

pub returns : goal.returns
returns c =
    holds-no-bool _ _ _ _ c.if-own-a.false c.form_at-form.ensures c.in-Bool.is c.if-x-le1.false
