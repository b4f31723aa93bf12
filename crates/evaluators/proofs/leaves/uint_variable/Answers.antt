-- By the form of the variable.
-- Assumes nothing.
use Rattle.evaluators.proofs.ViewLaws.{holds-out, holds-uint, holds-other, holds-no-uint, holds-none-uint}
use Rattle.evaluators.proofs.leaves.uint_variable.Goals as goal

pub returns-then-own-a : goal.returns-then-own-a
returns-then-own-a c = holds-out _ _ _ _ _ c.if-own-a.true

pub returns-then-x-le1 : goal.returns-then-x-le1
returns-then-x-le1 c =
    holds-no-uint _ _ _ _ c.if-own-a.false c.form_at-form.ensures c.in-Bool.is c.if-x-le1.true

pub returns-in-Uint : goal.returns-in-Uint
returns-in-Uint c =
    holds-uint _ _ _ _ c.if-own-a.false c.form_at-form.ensures c.in-Uint.is

pub returns-else-x-le1 : goal.returns-else-x-le1
returns-else-x-le1 c =
    holds-other _ _ _ _ c.if-own-a.false c.form_at-form.ensures c.in-Bool.is c.if-x-le1.false

pub returns-in_default : goal.returns-in_default
returns-in_default c =
    holds-none-uint _ _ _ _ c.if-own-a.false c.form_at-form.ensures c.in_default.not-Uint c.in_default.not-Bool
