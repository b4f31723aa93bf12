-- By the form of the variable, and the arrays of the record.
-- Assumes nothing.
use Rattle.evaluators.proofs.ViewLaws.{pointer_out, holds-pointer, holds-lacking, holds-none-pointer}
use Rattle.evaluators.proofs.leaves.pointer_variable.Goals as goal

pub returns-then-own-a : goal.returns-then-own-a
returns-then-own-a c = pointer_out _ _ _ _ _ _ c.if-own-a.true

pub returns-in_default : goal.returns-in_default
returns-in_default c =
    holds-none-pointer _ _ _ _ _ _ c.if-own-a.false c.form_at-form.ensures c.in_default.not-Pointer

pub returns-then-to-inputs : goal.returns-then-to-inputs
returns-then-to-inputs c =
    holds-pointer _ _ _ _ _ _ c.if-own-a.false c.form_at-form.ensures c.in-Pointer.is c.if-to-inputs.true

pub returns : goal.returns
returns c =
    holds-lacking _ _ _ _ _ _ c.if-own-a.false c.form_at-form.ensures c.in-Pointer.is c.if-to-inputs.false
