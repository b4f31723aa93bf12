-- Only a variable that holds a class has one to choose in.
-- Assumes nothing.
use Rattle.evaluators.proofs.ViewLaws.{class-out, class-held, class-none}
use Rattle.evaluators.proofs.leaves.class_choice.Goals as goal

pub returns-then-own-a : goal.returns-then-own-a
returns-then-own-a c = class-out _ _ _ _ _ c.if-own-a.true

pub returns-in_default : goal.returns-in_default
returns-in_default c = class-none _ _ _ _ _ c.if-own-a.false c.form_at-form.ensures c.in_default.not-Class

pub returns : goal.returns
returns c =
    class-held _ _ _ _ _ c.if-own-a.false c.form_at-form.ensures c.in-Class.is c.choice_in.ensures
